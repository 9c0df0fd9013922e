pub mod Homes
pub mod Hands
pub mod Laws
