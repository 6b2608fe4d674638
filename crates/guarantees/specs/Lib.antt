pub mod Picks
pub mod Needed
