pub mod Live
pub mod Calls
