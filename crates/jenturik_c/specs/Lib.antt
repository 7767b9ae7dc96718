pub mod Face
pub mod Flat
pub mod Many
pub mod Lent
pub mod Version
