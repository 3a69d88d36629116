-- What is owed to clients, and where nothing is.
pub mod Owing
pub mod Sending
pub mod Drained
pub mod Draining
pub mod Sent
