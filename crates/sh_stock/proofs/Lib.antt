pub mod Prefixes
pub mod LineMeanings
pub mod Searches
pub mod Statuses
