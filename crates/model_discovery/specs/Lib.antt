pub mod Map
pub mod Chain
pub mod WalkState
pub mod Stage
