pub mod Kinds
pub mod Literals
pub mod Gathered
pub mod Parse
pub mod Form
