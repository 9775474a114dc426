pub mod Accepting
pub mod Movers
pub mod Spans
pub mod Faults
pub mod Plays
pub mod Games
pub mod Views
