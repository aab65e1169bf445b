pub mod Linked
pub mod GraphLaws
pub mod Fronts
pub mod Touched
