mod Bytes
mod Calls
mod Cuts
mod Listed
