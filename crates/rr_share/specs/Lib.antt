pub mod Search
pub mod Chains
pub mod Marks
pub mod Freezing
pub mod Plans
