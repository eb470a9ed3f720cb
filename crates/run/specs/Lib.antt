pub mod Pools
pub mod Steps
pub mod Runs
