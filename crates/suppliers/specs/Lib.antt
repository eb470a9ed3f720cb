pub mod Lists
pub mod Bytes
pub mod Rows
pub mod Turns
