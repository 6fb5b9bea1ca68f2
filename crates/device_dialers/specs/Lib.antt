pub mod Cuts
pub mod Device
