pub mod Last
pub mod StrideAndStep
