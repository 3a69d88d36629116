pub mod Chunks
pub mod Pages
pub mod Requests
pub mod Answers
pub mod Visits
