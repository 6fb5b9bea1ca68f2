pub mod Spelling
pub mod Texts
pub mod Fronts
pub mod Telling
pub mod Handled
pub mod Done
pub mod Taking
pub mod Ending
