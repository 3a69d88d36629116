pub mod Given
pub mod Shown
pub mod Tallies
