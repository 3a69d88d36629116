pub mod Texts
pub mod Finding
pub mod Fronting
pub mod Pieces
pub mod Courses
