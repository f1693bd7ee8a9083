pub mod Pasts
pub mod Grows
pub mod Steps
