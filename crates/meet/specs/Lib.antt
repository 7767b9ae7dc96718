pub mod Edges
pub mod Shown
