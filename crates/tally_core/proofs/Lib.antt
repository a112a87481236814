pub mod CountedAgain
pub mod Tallies
pub mod Turned
