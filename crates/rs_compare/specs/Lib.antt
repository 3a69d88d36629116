pub mod Differences
pub mod Merging
pub mod Heard
