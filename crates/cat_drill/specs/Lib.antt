pub mod Steps
pub mod Drill
