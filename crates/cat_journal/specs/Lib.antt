pub mod Ahead
pub mod AtRest
pub mod Frames
pub mod Held
pub mod Journals
pub mod Laws
pub mod OneMore
pub mod Reading
