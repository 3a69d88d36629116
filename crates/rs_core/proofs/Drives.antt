-- Steps of a link and of a route server, one after the other.
pub mod Leading
pub mod Taking
pub mod Continuing
pub mod Sets
pub mod Closing
