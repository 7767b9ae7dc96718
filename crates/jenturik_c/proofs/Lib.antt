pub mod Faces
pub mod Flats
pub mod Kept
pub mod Judges
pub mod Changed
pub mod One
