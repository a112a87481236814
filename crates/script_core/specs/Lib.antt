pub mod ScriptFields
pub mod Lines
pub mod RefusedLines
pub mod Script
pub mod computed
pub mod Laws
