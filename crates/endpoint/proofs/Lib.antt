pub mod Answering
pub mod Starting
pub mod Arriving
pub mod Leaving
