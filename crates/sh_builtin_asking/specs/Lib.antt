pub mod BuiltIns
pub mod Resuming
