pub mod Pins
pub mod Choice
pub mod Sifted
