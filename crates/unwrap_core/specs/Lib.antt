pub mod Tags
pub mod Unwrapped
pub mod UnwrapEvents
pub mod Laws
