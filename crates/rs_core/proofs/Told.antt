-- What clients were told, by the octets that went to them.
pub mod Telling
pub mod OneMessage
pub mod NextUpdate
pub mod Alike
pub mod BySession
pub mod Delivering
pub mod Ordering
pub mod NextMessage
pub mod Serving
pub mod InTurn
pub mod Answered
pub mod Senders
