-- What the link keeps still agrees with what was done, one operation later.
pub mod Connections
pub mod Rounds
pub mod Orders
