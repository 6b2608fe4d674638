pub mod Picked
pub mod Continued
pub mod Guaranteed
pub mod Small
pub mod Reachable
pub mod Rootless
pub mod Laps
pub mod Counterexamples
