-- Functions that proofs compute with, tests of what relations state, and what private calls and fields keep to. A clause or a law
-- ties each to the definitions beside this folder, so nobody has to believe it.
pub mod ReplayStep
pub mod ReplayAgrees
pub mod WatchStep
pub mod PublishStep
pub mod LinesTold
