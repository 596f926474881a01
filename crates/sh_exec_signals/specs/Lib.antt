pub mod Placed
pub mod Prompting
pub mod ReadLimit
pub mod Reporting
pub mod Signals
