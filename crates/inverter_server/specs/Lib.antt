pub mod Answers
pub mod Moments
pub mod Serving
pub mod Turns
