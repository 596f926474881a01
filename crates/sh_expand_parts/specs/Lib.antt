pub mod Answers
pub mod Closings
pub mod Contexts
pub mod Drafts
pub mod Forms
pub mod Removals
pub mod Tildes
pub mod Values
