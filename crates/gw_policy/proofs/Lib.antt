pub mod Callers
mod ByWord
mod EgressPorts
mod Judged
mod PairLists
pub mod PolicyExamples
pub mod PolicySets
mod Programs
mod Recalling
