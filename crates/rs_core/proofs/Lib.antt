pub mod Run
pub mod Session
pub mod Headline
pub mod Examples
pub mod Drives
pub mod Touched
pub mod Told
pub mod Owed
