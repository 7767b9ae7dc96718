pub mod Widths
pub mod RoundTrip
pub mod Judged
