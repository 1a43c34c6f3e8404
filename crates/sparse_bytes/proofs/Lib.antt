pub mod Runs
pub mod Positions
