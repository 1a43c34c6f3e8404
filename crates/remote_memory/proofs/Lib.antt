mod Beneath
mod Choices
mod Listed
mod Others
mod Puts
