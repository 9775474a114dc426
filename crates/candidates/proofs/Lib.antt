pub mod Sets
pub mod Pruning
pub mod Leaves
pub mod Steps
