pub mod Parameters
pub mod Places
pub mod Backquotes
pub mod Building
pub mod Fitting
pub mod Meaning
pub mod Productions
pub mod Stack
