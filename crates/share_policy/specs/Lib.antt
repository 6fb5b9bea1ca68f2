pub mod Shares
pub mod Claims
pub mod Fairness
pub mod LevelRange
