pub mod AllOf
pub mod Fit
pub mod Rows
