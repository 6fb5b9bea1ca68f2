pub mod Answering
pub mod Pieces
pub mod Turning
pub mod Visits
