pub mod History
pub mod Legal
pub mod Queue
pub mod Members
