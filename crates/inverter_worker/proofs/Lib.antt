pub mod Answered
pub mod Runs
pub mod Turns
pub mod Requests
