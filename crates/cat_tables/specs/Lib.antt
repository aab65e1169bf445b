pub mod Arrivals
pub mod HashOrder
pub mod LookUps
pub mod ReferenceLaws
pub mod References
pub mod Tables
pub mod Sorted
