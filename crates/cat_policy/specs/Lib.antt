pub mod Times
pub mod GivenCutoffs
pub mod Policies
pub mod PolicyLaws
