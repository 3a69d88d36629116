pub mod Views
pub mod Decided
pub mod Pending
pub mod Message
pub mod Inside
pub mod Listing
