pub mod Carrying
pub mod Contents
pub mod Entering
pub mod Filling
pub mod Standing
pub mod Stopping
