pub mod CommandLine
pub mod RequestLine
pub mod computed
