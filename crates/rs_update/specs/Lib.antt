pub mod Outcomes
pub mod Changes
pub mod Laws
