mod LinesExamples
pub mod ClaimLines
pub mod DifferenceStatus
pub mod EndedEarly
pub mod JsonTexts
pub mod LogClaims
pub mod LogEnds
pub mod LogTexts
pub mod PathsTold
pub mod PlaceByPlace
pub mod PortsTold
pub mod ShownTexts
pub mod TextsInOrder
