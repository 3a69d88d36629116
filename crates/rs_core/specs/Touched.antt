-- What is touched for a client, and what its turns decide and answer.
pub mod Touches
pub mod Turns
pub mod Altering
pub mod ByRun
pub mod ByMoves
pub mod Answering
pub mod SinceLastTurn
pub mod LastTurns
pub mod TurnsOfAll
