pub mod Numbered
pub mod Judged
pub mod Counted
