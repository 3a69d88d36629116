pub mod Notes
pub mod Triples
pub mod Opens
pub mod Refreshes
pub mod Walk
pub mod Writing
pub mod Laws
pub mod Good
