pub mod Codes
pub mod Environment
pub mod Places
pub mod Refusals
pub mod ShellOptions
pub mod Starting
