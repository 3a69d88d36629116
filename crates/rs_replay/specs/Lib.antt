pub mod Findings
pub mod Sendings
pub mod SentLines
pub mod Sent
pub mod Telling
pub mod Taking
pub mod Comparing
