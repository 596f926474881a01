pub mod Assigning
pub mod Brackets
pub mod Conditional
pub mod Integers
pub mod Lines
pub mod Operands
