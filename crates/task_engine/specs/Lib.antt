pub mod EventTasks
pub mod InputText
pub mod RequestText
pub mod HandedOut
pub mod EventReader
pub mod ListedReplay
