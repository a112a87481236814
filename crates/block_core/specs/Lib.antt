pub mod Commas
pub mod BlockText
pub mod Period
pub mod computed
