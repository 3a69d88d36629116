-- What may differ from the configuration before.
pub mod Fixed
pub mod Others
