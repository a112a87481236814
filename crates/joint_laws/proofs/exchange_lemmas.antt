pub mod Changes
pub mod Received
pub mod OneFrame
pub mod WorkedRun
