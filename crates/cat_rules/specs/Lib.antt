pub mod Rules
pub mod WellFormed
