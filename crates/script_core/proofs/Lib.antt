pub mod ScriptLemmas
pub mod ControlLemmas
pub mod LineLaws
pub mod ScriptLaws
pub mod WorkedExamples
