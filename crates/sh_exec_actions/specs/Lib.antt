pub mod Beginnings
pub mod ForLoops
pub mod Preparing
pub mod Statuses
