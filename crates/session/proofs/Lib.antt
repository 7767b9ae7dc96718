pub mod Parts
pub mod Feeds
pub mod Stands
