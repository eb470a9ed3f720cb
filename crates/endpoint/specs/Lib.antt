pub mod State
pub mod Answers
pub mod Ignoring
pub mod SetUps
