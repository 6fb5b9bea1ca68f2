pub mod Keys
pub mod Checks
pub mod SiteFile
pub mod Reading
pub mod Summary
