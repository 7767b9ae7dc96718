pub mod Shows
pub mod Hurts
