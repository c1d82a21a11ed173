pub mod Beginnings
pub mod Callers
pub mod Contents
pub mod Faults
pub mod Feeding
pub mod Joining
pub mod Parting
pub mod Resuming
pub mod Shared
pub mod Taking
pub mod Verdicts
pub mod Scanned
mod TraceExamples
