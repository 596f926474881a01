pub mod Places
pub mod Slashes
pub mod Spaces
pub mod Blocks
pub mod Held
pub mod Turns
pub mod Wording
mod Written
