pub mod Deeds
pub mod Hands
pub mod Rule
pub mod Passes
pub mod Kept
pub mod DeskOf
pub mod Standing
