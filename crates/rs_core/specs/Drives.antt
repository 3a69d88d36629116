-- What passes between a route server and the link that drives it.
pub mod Steps
pub mod Courses
pub mod Answers
pub mod Closing
pub mod Serving
