-- Functions that proofs compute with, tests of what relations state, and what private fields keep to. A clause or a law
-- ties each to the definitions beside this folder, so nobody has to believe it.
pub mod ImportStep
pub mod ObjectFields
pub mod InForm
pub mod ShownObjects
pub mod SettledMembers
pub mod KeptLine
pub mod KeptPieces
pub mod KeptOnce
