pub mod Conditions
pub mod Signals
