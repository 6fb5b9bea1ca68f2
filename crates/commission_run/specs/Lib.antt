pub mod Lines
pub mod Course
pub mod Ends
pub mod Arriving
pub mod Going
