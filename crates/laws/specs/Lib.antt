pub mod Views
pub mod Invariant
pub mod Steps
pub mod Roots
pub mod Inductive
pub mod Promises
