pub mod Entries
pub mod Routes
pub mod Changes
pub mod Conns
