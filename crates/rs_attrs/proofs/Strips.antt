-- What is left where communities are stripped.
pub mod Communities
pub mod StrippedLegal
pub mod StrippedLaws
