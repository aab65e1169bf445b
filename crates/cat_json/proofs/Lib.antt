pub mod Ascending
pub mod Items
pub mod Members
pub mod RoundTrips
pub mod Utf8
