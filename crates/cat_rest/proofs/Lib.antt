mod Keys
mod Options
mod Points
mod Ready
pub mod Served
mod Sorted
