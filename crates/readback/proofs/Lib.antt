pub mod Grammatical
pub mod Written
