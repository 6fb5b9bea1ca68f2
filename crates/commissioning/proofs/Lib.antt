pub mod Fewer
pub mod Moves
pub mod Passing
pub mod Leading
