pub mod Blocks
pub mod Finishing
pub mod Whole
