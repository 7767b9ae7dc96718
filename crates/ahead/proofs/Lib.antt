pub mod Strides
pub mod Looks
pub mod Visits
pub mod Sweeps
