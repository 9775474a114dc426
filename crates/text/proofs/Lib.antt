mod Cuts
mod DigitSteps
pub mod Layouts
pub mod Decimal
