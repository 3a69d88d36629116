-- What is touched for clients, and what their turns decide.
pub mod Touching
pub mod Turned
pub mod KeptAnswers
pub mod ChangedPrefixes
pub mod Altering
pub mod CutShort
pub mod Refusing
pub mod OwnSession
pub mod Calls
pub mod Moments
pub mod Growing
pub mod Room
pub mod TurnAnswers
pub mod TurnsOfAll
pub mod Since
pub mod LastTurns
