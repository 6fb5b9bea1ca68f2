pub mod Orders
pub mod Comments
pub mod Deeds
pub mod Transcript
pub mod Handling
