pub mod Answers
pub mod Making
pub mod Statuses
pub mod WordForms
