pub mod Classes
pub mod Shell
pub mod Evidence
pub mod Levels
