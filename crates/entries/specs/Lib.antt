pub mod Covering
pub mod Fitting
pub mod Lawful
