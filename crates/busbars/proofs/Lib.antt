pub mod Nesting
pub mod Members
pub mod Lists
pub mod Raises
pub mod Under
pub mod Asking
