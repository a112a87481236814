pub mod TagLaws
pub mod UnwrappedLaws
pub mod UnwrappedEvents
pub mod StandardFacts
