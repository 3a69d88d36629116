-- What holds of each configuration that is accepted.
pub mod Passing
pub mod SoundKeys
pub mod Soundness
pub mod Imports
