pub mod Gathering
pub mod Delivering
