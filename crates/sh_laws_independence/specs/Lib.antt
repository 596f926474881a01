pub mod Independence
pub mod IndependentTurns
pub mod Parts
