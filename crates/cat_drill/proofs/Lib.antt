pub mod Keys
pub mod WellMade
pub mod Called
pub mod Stepping
pub mod Turns
pub mod Drawn
