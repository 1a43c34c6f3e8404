pub mod Teams
pub mod Steps
pub mod Plans
pub mod Ends
pub mod InOrder
pub mod Growth
