mod Numbers
mod Orders
