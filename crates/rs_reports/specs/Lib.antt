pub mod Communications
pub mod Levels
pub mod Offers
