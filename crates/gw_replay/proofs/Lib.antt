mod ScriptExamples
pub mod Sessions
pub mod CutLines
pub mod KeptLines
pub mod Reaching
pub mod Streams
pub mod Answering
pub mod OneListing
pub mod OneRead
pub mod OneAnswer
pub mod SomeListing
pub mod SomeCause
pub mod SomeAnswer
