pub mod Buses
pub mod Caps
pub mod Applied
pub mod Sums
