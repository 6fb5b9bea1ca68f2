pub mod Rows
pub mod OneLife
