pub mod Running
pub mod Stepping
