mod Checking
mod Feeding
mod Lists
mod Numbers
mod Order
mod Standing
mod Starting
mod Texts
