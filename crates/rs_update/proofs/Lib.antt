pub mod PrefixSets
pub mod Collecting
pub mod BodyFields
pub mod Effecting
pub mod Mandatory
pub mod OneEffect
pub mod Reasons
mod WorkedRows
