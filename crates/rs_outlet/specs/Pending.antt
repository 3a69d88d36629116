-- What waits to be sent: the list of it, and how it is found.
pub mod Left
pub mod Slots
pub mod Parts
pub mod Marking
pub mod Owed
pub mod CarriedOut
pub mod Chains
pub mod Linking
pub mod Choosing
