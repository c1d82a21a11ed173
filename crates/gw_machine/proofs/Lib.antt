pub mod Scratch
pub mod Outcomes
pub mod Reached
pub mod Unique
pub mod Effects
pub mod Totals
pub mod Steps
pub mod Advanced
