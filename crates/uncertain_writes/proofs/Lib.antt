pub mod Lists
pub mod Order
pub mod Pending
pub mod Replies
pub mod Entries
pub mod Rooms
