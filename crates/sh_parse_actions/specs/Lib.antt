pub mod Forms
pub mod Actions
pub mod Values
