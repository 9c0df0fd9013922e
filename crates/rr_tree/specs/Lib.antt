pub mod Tree
pub mod Nodes
pub mod Order
pub mod Names
pub mod Ancestors
pub mod Methods
pub mod Sets
