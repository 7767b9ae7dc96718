pub mod Collects
pub mod Firsts
