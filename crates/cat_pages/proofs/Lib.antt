pub mod Listed
pub mod Lists
pub mod Pages
pub mod Sorted
pub mod Texts
pub mod Walks
