-- Functions that proofs compute with, tests of what relations state, and what private calls and fields keep to. A clause or a law
-- ties each to the definitions beside this folder, so nobody has to believe it.
pub mod Filling
pub mod Sections
pub mod OneRead
pub mod AtHand
pub mod Steps
pub mod PrivateCalls
