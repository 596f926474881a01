pub mod Classes
pub mod Deciding
pub mod Items
pub mod Match
pub mod Place
