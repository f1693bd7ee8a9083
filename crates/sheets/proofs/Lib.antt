pub mod Shorter
pub mod Turns
