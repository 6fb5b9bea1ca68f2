pub mod Expiries
