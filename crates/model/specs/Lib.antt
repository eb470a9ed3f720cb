pub mod Records
pub mod Endpoint
pub mod Calls
pub mod Runs
pub mod Words
pub mod Theorem
pub mod Rfc9000
pub mod Cases
