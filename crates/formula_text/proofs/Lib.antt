mod LiteralSteps
pub mod Gathering
pub mod Binding
pub mod LiteralForms
pub mod Prefixes
pub mod LineForms
pub mod TextForms
pub mod LineRules
