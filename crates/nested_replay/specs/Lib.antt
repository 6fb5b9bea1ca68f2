pub mod Nested
pub mod Reading
pub mod Played
pub mod Playing
pub mod Replay
