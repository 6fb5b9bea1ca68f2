pub mod Commission
