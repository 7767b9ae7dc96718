pub mod Feeding
pub mod Replaces
