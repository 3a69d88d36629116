-- What is read of a field: what counts, what is kept, and what it means.
pub mod FirstOfType
pub mod FirstOfTypeWalk
pub mod Placing
pub mod GatherWalk
pub mod FlawWalk
pub mod Reasons
pub mod Building
pub mod Meant
pub mod Legal
pub mod ReadField
pub mod Walk
pub mod ByTwo
pub mod LegalTwo
pub mod ShortTwo
