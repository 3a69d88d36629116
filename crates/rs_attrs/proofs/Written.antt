-- What is written, and that it reads back.
pub mod ReadBack
pub mod LeftToWrite
pub mod Narrowing
pub mod NarrowedNumbers
pub mod TwoMap
pub mod TwoKept
pub mod ReadBackTwo
pub mod Parts
