pub mod Tokens
pub mod Sources
