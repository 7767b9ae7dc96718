pub mod Marking
pub mod Chains
