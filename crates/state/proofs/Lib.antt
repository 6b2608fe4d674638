pub mod Scenarios
pub mod Numbered
pub mod Drains
pub mod Lawful
