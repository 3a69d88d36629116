pub mod Items
pub mod Endings
pub mod Sessions
pub mod Hearing
pub mod Steps
pub mod Laws
