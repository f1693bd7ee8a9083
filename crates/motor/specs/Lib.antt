pub mod Kept
pub mod Motors
