pub mod Tapes
pub mod Lines
pub mod Saying
pub mod Named
pub mod Accounts
pub mod Records
pub mod Happening
