pub mod Passing
pub mod Marking
