pub mod Declarations
pub mod Messages
pub mod Pipelines
pub mod Redirections
pub mod Saving
pub mod Scripts
pub mod Simple
pub mod Wants
