pub mod Quoting
pub mod Stack
pub mod Seeing
pub mod Loads
mod Spelling
pub mod Looking
mod Leaves
mod Alone
pub mod Turning
pub mod Rows
pub mod Same
pub mod Finding
mod Fronts
mod Sided
mod Compares
mod Searches
mod Joins
