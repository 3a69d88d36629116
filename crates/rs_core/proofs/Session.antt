-- What is heard of clients, message by message, and which messages go to them.
pub mod OperatorRecords
pub mod Unheard
pub mod Listening
pub mod Cutting
pub mod Filling
pub mod Updating
pub mod Updates
pub mod Limits
pub mod LongMessages
pub mod Conversing
pub mod Proceeding
pub mod Keepalives
pub mod Faulting
pub mod Noticing
pub mod Conversed
pub mod RisingTypes
