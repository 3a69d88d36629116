pub mod Denoted
pub mod Laws
pub mod Packed
pub mod Parts
