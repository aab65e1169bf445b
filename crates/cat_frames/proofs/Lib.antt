pub mod Untold
pub mod Logged
pub mod Patterns
pub mod Again
pub mod Rows
pub mod Walked
pub mod Written
pub mod RequestRows
pub mod Rewritten
mod CheckpointRows
mod StandingRows
pub mod Sizes
