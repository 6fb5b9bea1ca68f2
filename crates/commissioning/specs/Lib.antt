pub mod Stage
pub mod Asking
pub mod Replies
pub mod Taking
pub mod Runs
pub mod Passed
pub mod Ending
pub mod Keeping
