pub mod Ids
pub mod Keys
pub mod Causes
pub mod Received
pub mod Same
pub mod Blank
