pub mod Account
pub mod Queue
pub mod Known
pub mod Ledger
pub mod Opening
pub mod Release
pub mod Plant
