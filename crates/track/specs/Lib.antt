pub mod Refusals
pub mod Trains
pub mod Meaning
pub mod Ways
pub mod Steps
pub mod Calls
