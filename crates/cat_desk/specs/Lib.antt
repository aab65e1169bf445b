pub mod Log
pub mod LogLaws
pub mod Marks
pub mod Sight
pub mod Rule
pub mod Pass
pub mod Hold
