pub mod Signed
pub mod Fitting
