pub mod ClaimSets
pub mod Tables
pub mod Apart
mod ClaimsExamples
