pub mod Kept
pub mod Whole
pub mod Listing
pub mod Determined
pub mod Text
