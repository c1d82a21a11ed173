pub mod InTurn
pub mod Masks
pub mod Octets
pub mod Slots
