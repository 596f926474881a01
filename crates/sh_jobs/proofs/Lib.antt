pub mod Ahead
pub mod Apart
pub mod Best
pub mod Changed
pub mod Fitting
pub mod Marked
pub mod Numbers
