pub mod Driving
pub mod Processes
