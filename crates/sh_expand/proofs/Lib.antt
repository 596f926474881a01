pub mod Paths
pub mod Begins
pub mod Forms
pub mod Steps
pub mod Turns
pub mod Waiting
