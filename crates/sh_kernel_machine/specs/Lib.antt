pub mod Tables
pub mod Machine
pub mod Signals
