pub mod Stored
pub mod Bound
pub mod Tabled
pub mod Offered
pub mod Held
