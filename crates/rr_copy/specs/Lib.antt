pub mod Messages
pub mod Contents
