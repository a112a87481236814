pub mod Pieces
pub mod Afters
pub mod Names
pub mod CaptureNames
pub mod ValueText
pub mod LineText
