mod NumberLaws
mod MembersHere
mod Truncated
mod Joined
mod AlikeParts
mod Envelopes
mod ShownAgain
mod Walking
mod WhatIsNoted
mod WrittenParts
mod WrittenWhole
mod WrittenFrames
mod FromSeen
pub mod OtherForms
pub mod BesideFrames
