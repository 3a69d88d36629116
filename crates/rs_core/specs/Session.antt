-- What was heard of each client, and which messages go to it.
pub mod OperatorRecords
pub mod Keepalives
pub mod Hearing
pub mod Conversations
pub mod Conversed
