-- Functions that proofs compute with, tests of what relations state, and what private fields keep to. A clause or a law
-- ties each to the definitions beside this folder, so nobody has to believe it.
pub mod DataCode
pub mod Weight
pub mod Falls
pub mod KindReading
pub mod ContentsReading
pub mod Reading
pub mod Left
pub mod UtcReading
pub mod SpellableTest
pub mod Plain
