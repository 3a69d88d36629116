pub mod Agreeing
pub mod Changing
pub mod Handling
pub mod Places
pub mod Rounds
pub mod Sending
pub mod Noticed
