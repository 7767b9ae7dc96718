pub mod Freed
pub mod Gathers
