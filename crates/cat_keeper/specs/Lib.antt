pub mod Bases
pub mod KeeperLaws
pub mod Keeping
pub mod Kinds
pub mod Listed
pub mod MemoryKeepers
pub mod Moments
pub mod Watching
