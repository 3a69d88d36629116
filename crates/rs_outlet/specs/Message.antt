-- What the next message is.
pub mod Next
pub mod Begins
pub mod Begun
