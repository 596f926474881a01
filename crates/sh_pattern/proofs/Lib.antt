pub mod Backtrack
pub mod Decisions
pub mod ItemLemmas
