mod SetSteps
pub mod FormulaFacts
mod ReplySteps
pub mod EntryFits
pub mod Placed
mod Lengths
mod FieldTexts
pub mod ReadingBack
mod FieldForms
pub mod LineForms
mod Exactness
