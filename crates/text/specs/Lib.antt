pub mod Rows
pub mod Numeral
pub mod Taken
pub mod Faulty
pub mod Layout
pub mod Left
