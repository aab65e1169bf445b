pub mod Merged
pub mod Refusals
pub mod Replies
pub mod Wording
