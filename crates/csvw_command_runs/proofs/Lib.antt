mod Ending
mod Opening
mod ResourceLemmas
mod Running
mod Sending
