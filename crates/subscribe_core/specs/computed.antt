-- Functions that proofs compute with, tests of what relations state, and what private calls and fields keep to. A clause or a law
-- ties each to the definitions beside this folder, so nobody has to believe it.
pub mod Steps
pub mod Content
pub mod Names
pub mod Deadlines
pub mod Flagged
pub mod Indexed
pub mod Received
pub mod WatchAnswers
pub mod PrivateCalls
pub mod Sinks
