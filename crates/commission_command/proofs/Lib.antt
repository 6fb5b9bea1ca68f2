pub mod Commissioned
