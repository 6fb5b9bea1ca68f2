pub mod LineEnds
pub mod Numbers
pub mod Spelled
pub mod Steps
pub mod Ranges
pub mod Taken
pub mod Written
pub mod Once
pub mod Back
pub mod Count
pub mod Reader
mod Counted
pub mod Comments
pub mod Books
