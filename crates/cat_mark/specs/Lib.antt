pub mod Marks
pub mod Walked
