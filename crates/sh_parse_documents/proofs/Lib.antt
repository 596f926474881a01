mod Places
mod Lines
mod Cutting
pub mod Defined
pub mod Sizes
pub mod Firsts
pub mod Scanning
