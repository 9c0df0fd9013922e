pub mod Above
pub mod Defined
pub mod Growth
pub mod Placed
pub mod Trees
