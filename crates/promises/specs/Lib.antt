pub mod CallRuns
pub mod Calls
pub mod Words
