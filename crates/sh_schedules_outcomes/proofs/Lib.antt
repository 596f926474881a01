pub mod Orders
pub mod Preferring
pub mod Tally
pub mod Looking
