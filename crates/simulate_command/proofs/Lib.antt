pub mod Simulated
pub mod Simulating
