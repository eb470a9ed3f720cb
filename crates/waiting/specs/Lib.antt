pub mod Groups
pub mod Laws
pub mod Leads
