pub mod StrideAndStep
pub mod Last
pub mod Small
