-- public meaning but for what a slot owns: frames, what a handle holds, faults, policies, verdicts, rules, hearing, and gateways
pub mod Boxes
pub mod Frames
pub mod Held
pub mod Faults
pub mod Policies
pub mod Programs
pub mod Verdicts
pub mod Hearing
pub mod Gateways
pub mod Offers
pub mod Rules
pub mod Sendings
pub mod Counts
pub mod Steps
pub mod Renewals
