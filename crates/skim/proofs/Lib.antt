pub mod Counts
pub mod NoStops
