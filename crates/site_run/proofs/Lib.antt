pub mod Seats
pub mod Whole
pub mod Lines
pub mod Full
pub mod Comments
mod Shown
pub mod Output
pub mod Written
