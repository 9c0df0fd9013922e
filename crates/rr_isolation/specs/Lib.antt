pub mod Parts
pub mod Outer
pub mod Names
pub mod Numbers
pub mod Finds
