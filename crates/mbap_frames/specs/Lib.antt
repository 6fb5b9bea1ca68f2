pub mod Frame
pub mod Stream
pub mod Feed
pub mod Gathering
pub mod FaultText
