pub mod Finding
pub mod Dialing
