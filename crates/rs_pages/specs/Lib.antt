pub mod Judging
pub mod Candidates
pub mod Why
pub mod Rows
pub mod Counting
pub mod Listings
