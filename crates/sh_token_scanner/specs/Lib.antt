pub mod Machine
pub mod Run
pub mod Steps
