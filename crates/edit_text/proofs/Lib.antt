pub mod Lines
pub mod MoreLines
pub mod Pieces
pub mod TextsOfEdits
pub mod WholeTexts
