pub mod Objects
pub mod Times
pub mod MemberObject
pub mod EventObject
pub mod Onward
