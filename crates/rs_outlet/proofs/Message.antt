-- The next message: which prefixes it is about, and what it leaves.
pub mod Ranges
pub mod Fullest
pub mod AllWaiting
pub mod Rising
pub mod Chosen
pub mod Updates
pub mod Collected
pub mod Beginning
