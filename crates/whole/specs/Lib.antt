pub mod Transcript
pub mod Calls
