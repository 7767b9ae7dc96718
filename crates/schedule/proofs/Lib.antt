pub mod Loop
pub mod PartOfRun
pub mod Settled
