pub mod Alone
pub mod Entered
pub mod Framed
pub mod Inside
