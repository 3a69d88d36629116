pub mod Texts
pub mod Keys
pub mod Firsts
pub mod Holders
pub mod Members
pub mod Views
pub mod Updates
pub mod Traffic
