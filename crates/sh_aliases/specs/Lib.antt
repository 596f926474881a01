pub mod Aliases
pub mod Places
