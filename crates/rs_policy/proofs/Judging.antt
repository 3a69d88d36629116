-- Which rule decides, and what becomes of a route.
pub mod Sets
pub mod Spans
pub mod Written
pub mod WithoutRules
pub mod Unasked
pub mod Placed
pub mod Noted
pub mod Prefixes
pub mod PassedOver
pub mod Receivers
