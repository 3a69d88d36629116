-- What a client was told: what it means, in which order, and whose routes it is.
pub mod Points
pub mod Telling
pub mod Order
pub mod InTurn
pub mod Senders
pub mod Outlets
