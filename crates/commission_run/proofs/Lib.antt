pub mod Taking
pub mod Linked
pub mod Stages
pub mod Going
pub mod Stopping
pub mod Complete
