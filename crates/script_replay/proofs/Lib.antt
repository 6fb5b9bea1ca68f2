pub mod Refused
pub mod Plays
pub mod Once
pub mod Mixed
pub mod Lives
