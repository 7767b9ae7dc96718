pub mod Lines
pub mod Outputs
