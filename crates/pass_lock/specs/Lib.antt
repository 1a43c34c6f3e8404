pub mod Lists
pub mod Rule
pub mod Slots
pub mod Passes
pub mod Lent
