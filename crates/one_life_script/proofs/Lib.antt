pub mod Front
pub mod Ends
pub mod Calls
pub mod Once
