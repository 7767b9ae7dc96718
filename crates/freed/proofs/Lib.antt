pub mod Colours
pub mod Nearer
pub mod Gathers
pub mod Laws
pub mod Notes
