pub mod Headers
pub mod Gathered
pub mod Streams
pub mod OneFeeding
pub mod Feedings
pub mod Faults
pub mod Readings
