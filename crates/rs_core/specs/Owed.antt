-- What is still to be sent to a client, and that it is sent.
pub mod Owing
pub mod Draining
pub mod Sending
