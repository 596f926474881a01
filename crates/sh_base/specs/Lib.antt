pub mod Decimals
pub mod Memory
pub mod Names
pub mod Separators
pub mod formers
