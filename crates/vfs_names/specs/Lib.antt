pub mod Fingerprint
pub mod Path
pub mod Payload
