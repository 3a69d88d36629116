-- How a text is read, part by part.
pub mod Checks
pub mod Digits
pub mod Documents
pub mod Entries
pub mod SharedRules
pub mod Wholes
