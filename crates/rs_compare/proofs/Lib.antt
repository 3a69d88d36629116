pub mod Merged
pub mod Stepped
pub mod Hearing
pub mod Listed
