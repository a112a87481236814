-- What entries that are held in runs keep to. Crates above say by it what their own entries are, so nobody has to believe it.
pub mod Held
pub mod Order
pub mod Positions
pub mod RunSteps
pub mod Rank
