pub mod Words
pub mod Turning
