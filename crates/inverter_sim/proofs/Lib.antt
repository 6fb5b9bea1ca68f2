pub mod Times
pub mod Blocks
pub mod Outside
pub mod Holding
pub mod Limits
pub mod Doing
pub mod Banks
