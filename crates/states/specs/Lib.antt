pub mod Routes
pub mod Slots
pub mod Denials
