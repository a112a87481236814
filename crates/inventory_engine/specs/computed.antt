-- Functions that proofs compute with, tests of what relations state, and what private calls and fields keep to. A clause or a law
-- ties each to the definitions beside this folder, so nobody has to believe it.
pub mod PieceText
pub mod KnownTexts
pub mod ShownFields
pub mod BlocksStep
pub mod FirstBlocks
pub mod KeptBlock
