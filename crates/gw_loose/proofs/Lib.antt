pub mod Callers
pub mod Values
