-- All of it is public meaning: what a run promises of its input, its output and its status.
pub mod Dealing
pub mod Dealt
pub mod DealtPromises
pub mod DealtRuns
pub mod Forwarding
pub mod Egress
pub mod Logs
pub mod PortInputs
pub mod Refusals
pub mod Tallies
