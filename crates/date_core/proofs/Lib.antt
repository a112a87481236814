pub mod Years
pub mod Walks
pub mod Digits
pub mod Dates
pub mod WorkedExamples
