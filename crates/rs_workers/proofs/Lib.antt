pub mod Placing
mod Answering
