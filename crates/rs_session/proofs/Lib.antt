mod Rows
mod OpenRows
pub mod Phases
pub mod Standing
pub mod Messages
pub mod Moments
pub mod Commands
pub mod Lasting
pub mod Quiet
pub mod Briefs
pub mod Updates
