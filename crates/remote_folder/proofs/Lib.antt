mod Numbers
mod Ordered
mod Unlisted
