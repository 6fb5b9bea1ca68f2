pub mod Causes
pub mod Clocks
pub mod Fakes
pub mod Kept
pub mod Links
pub mod Plays
