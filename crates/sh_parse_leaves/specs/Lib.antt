pub mod Results
pub mod Sources
pub mod Inputs
pub mod Words
pub mod Leaves
