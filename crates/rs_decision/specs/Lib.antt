pub mod Choice
pub mod Best
pub mod Rank
pub mod Exits
pub mod Losing
