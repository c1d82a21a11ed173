pub mod DigitValues
pub mod DigitTable
pub mod Parts
pub mod DigitTexts
pub mod RoundTrip
pub mod ReadBack
pub mod WordByWord
pub mod ShownOctets
mod FrameExamples
mod TextExamples
mod LineExamples
