pub mod Ends
pub mod Site
