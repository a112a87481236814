pub mod RunLemmas
pub mod SearchLemmas
pub mod OrderLemmas
pub mod PositionLemmas
