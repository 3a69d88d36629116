pub mod Rows
pub mod Places
pub mod Cells
pub mod Blocks
