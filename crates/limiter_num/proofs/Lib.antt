pub mod Greatest
pub mod Scaled
pub mod RawAtMost
