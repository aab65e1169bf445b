pub mod Alike
pub mod Walks
pub mod Members
pub mod Ancestors
pub mod Nearest
pub mod TouchedKeys
pub mod Meeting
