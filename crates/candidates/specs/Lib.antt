pub mod Hits
pub mod Walks
pub mod Held
