pub mod Printed
pub mod Octets
pub mod Reading
