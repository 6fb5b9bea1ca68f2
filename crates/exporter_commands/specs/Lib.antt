pub mod Words
pub mod Live
