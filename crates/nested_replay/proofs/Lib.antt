pub mod Texts
pub mod Rows
pub mod Calls
pub mod Deeds
pub mod Playings
pub mod Once
pub mod Replays
pub mod OneReplay
