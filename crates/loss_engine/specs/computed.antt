pub mod Tracking
pub mod Entries
pub mod Held
pub mod Telling
pub mod Closing
pub mod NumberText
pub mod KeyOrder
pub mod Roll
