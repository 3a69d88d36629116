-- What a turn decides, and what is due to a client.
pub mod Touching
pub mod Due
pub mod Alike
pub mod HeldBy
pub mod Passing
pub mod Choices
pub mod News
pub mod Plans
pub mod Precedents
pub mod Memo
pub mod Rests
pub mod Turns
pub mod Counted
