pub mod Parts
pub mod Sessions
pub mod Ranges
pub mod Turns
