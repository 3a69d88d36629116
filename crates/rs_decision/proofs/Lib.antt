pub mod Filters
pub mod Chosen
pub mod Compared
pub mod Grouped
pub mod Lost
pub mod Rows
