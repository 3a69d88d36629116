pub mod Printing
pub mod Watched
