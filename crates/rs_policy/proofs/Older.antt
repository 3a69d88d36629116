-- What was written before the later keys means what it meant.
pub mod Communities
pub mod Keys
