pub mod Lasts
pub mod Ports
pub mod Answers
