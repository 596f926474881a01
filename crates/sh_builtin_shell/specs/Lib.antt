pub mod Functions
pub mod Shells
