pub mod Texts
pub mod Callers
