pub mod Following
pub mod Tokens
