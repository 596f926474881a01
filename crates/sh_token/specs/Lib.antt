pub mod Tokens
pub mod FirstToken
pub mod Body
pub mod Placed
pub mod Found
