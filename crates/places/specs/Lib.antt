pub mod Entries
pub mod Stacks
pub mod Held
pub mod Free
