-- One call of the ports, or one step of the core's link, after the other.
pub mod Calls
pub mod Connections
pub mod Writing
pub mod Orders
pub mod Rounds
