pub mod Classes
pub mod Replaying
pub mod Conserving
pub mod Ticketing
