pub mod Bank
pub mod RegisterMap
pub mod Replies
pub mod Calls
pub mod Following
pub mod HeldLimit
