pub mod Spaces
pub mod Equations
