pub mod Layout
pub mod Limit
pub mod Models
