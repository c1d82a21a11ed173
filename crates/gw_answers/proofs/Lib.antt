mod LinesExamples
pub mod RefusalTexts
