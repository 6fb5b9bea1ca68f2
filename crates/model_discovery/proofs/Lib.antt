pub mod Steps
pub mod Unique
pub mod Measure
pub mod Facts
