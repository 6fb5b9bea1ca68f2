pub mod Greatest
pub mod Totals
pub mod Levels
