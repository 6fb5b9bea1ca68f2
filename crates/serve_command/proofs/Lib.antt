pub mod Timers
pub mod Serving
