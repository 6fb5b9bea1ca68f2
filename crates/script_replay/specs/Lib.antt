pub mod Chain
pub mod Replay
pub mod Playing
pub mod Comments
pub mod Lives
