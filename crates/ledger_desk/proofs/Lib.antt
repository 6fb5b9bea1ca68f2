pub mod Replies
pub mod Later
pub mod Calls
pub mod Rolled
