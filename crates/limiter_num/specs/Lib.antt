pub mod Greatest
pub mod Milliwatts
pub mod Rating
pub mod RatingFaults
pub mod Timers
pub mod Points
