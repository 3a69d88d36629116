pub mod Callers
pub mod Dues
