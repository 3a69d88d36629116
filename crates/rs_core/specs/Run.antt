-- What befell a route server, what that means, and a route server that agrees with it.
pub mod Keeping
pub mod Moves
pub mod Meaning
pub mod Agreeing
pub mod Parts
pub mod Candidates
