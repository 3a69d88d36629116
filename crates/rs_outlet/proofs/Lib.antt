pub mod Answered
mod Message
pub mod Decided
pub mod Pending
mod OneOf
mod SameRows
