pub mod Extending
pub mod Rising
pub mod Runs
