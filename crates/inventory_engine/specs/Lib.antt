pub mod Configuration
pub mod SightingObject
pub mod Sightings
pub mod BlocksText
pub mod ListedBlocks
pub mod SubscribedText
pub mod Laws
pub mod computed
