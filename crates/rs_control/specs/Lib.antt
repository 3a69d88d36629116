pub mod Lines
pub mod Orders
pub mod Answers
pub mod Talks
pub mod Steps
pub mod Fronts
pub mod Courses
