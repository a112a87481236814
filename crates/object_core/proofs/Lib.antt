pub mod Appending
pub mod ObjectParts
pub mod ObjectLines
pub mod FloatBits
pub mod MemberTexts
pub mod OwnedMembers
pub mod WorkedExamples
