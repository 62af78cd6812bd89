mod InLists
mod Noting
mod Openings
mod Numbers
