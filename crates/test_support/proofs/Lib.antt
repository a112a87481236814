mod OwnCalls
mod Setting
mod Answers
