pub mod Callers
pub mod Gathering
pub mod PutInOrder
pub mod PortsInOrder
pub mod EgressLines
pub mod EgressParts
pub mod Lines
pub mod PartLengths
mod OneMore
mod CountedGroups
pub mod Counting
pub mod JudgedLines
pub mod PartByPart
pub mod Streams
pub mod EgressStreams
pub mod Hearing
pub mod Captured
mod JudgeExamples
