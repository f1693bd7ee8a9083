pub mod Sides
pub mod Ways
pub mod WayPairs
pub mod Signals
