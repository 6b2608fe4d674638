pub mod Counts
pub mod Loops
pub mod Finds
pub mod Orders
