pub mod CommaLemmas
pub mod WorkedExamples
