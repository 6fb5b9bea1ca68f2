pub mod States
pub mod Table
pub mod Answers
pub mod Runs
pub mod Turns
pub mod Requests
