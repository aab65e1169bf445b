pub mod Marking
pub mod Visible
pub mod Live
pub mod Rows
pub mod Unmarked
pub mod Shares
pub mod Before
