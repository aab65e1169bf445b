pub mod Changes
pub mod Maps
pub mod Pieces
pub mod Places
pub mod Shared
pub mod Walks
