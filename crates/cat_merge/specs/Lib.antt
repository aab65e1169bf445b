pub mod Decisions
pub mod Planned
pub mod PassingLaws
