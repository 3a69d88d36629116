pub mod Reading
pub mod Accepted
pub mod Judging
pub mod Older
pub mod Replacing
mod Decimals
mod Rows
