pub mod Callers
pub mod PortLists
pub mod PortBits
mod PortExamples
