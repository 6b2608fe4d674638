pub mod Feeds
pub mod Texts
pub mod Digits
