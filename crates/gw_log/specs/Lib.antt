-- public meaning: candump's form of a frame, the other way, and the lines of a log
pub mod LogFrames
pub mod LogTexts
pub mod LogLines
-- the inside: a marked word among the words of its text
pub mod MarkedWords
