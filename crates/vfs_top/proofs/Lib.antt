mod Begun
pub mod Breaking
pub mod Built
mod Dues
mod Ending
mod Going
mod Joining
mod Phased
mod Pieces
pub mod Still
pub mod Texts
mod Ticking
mod Told
