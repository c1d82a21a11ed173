mod EmissionExamples
pub mod Yields
pub mod Parts
pub mod Groups
pub mod Words
pub mod Prologue
pub mod FirstMatch
pub mod Unset
pub mod Fine
pub mod Emitted
pub mod Codes
pub mod Trees
pub mod TreesFit
mod TreesExamples
mod IndexExamples
mod DifferenceExamples
mod PairFrameExamples
mod QuestionExamples
pub mod NeverDecides
pub mod Causes
pub mod RuleBits
pub mod Holding
pub mod Listed
pub mod Rows
pub mod Indexed
pub mod Universes
pub mod Searched
pub mod Witnessed
pub mod PartsAt
pub mod Listing
pub mod Crossed
pub mod Asked
pub mod PairFrames
pub mod NoFrame
