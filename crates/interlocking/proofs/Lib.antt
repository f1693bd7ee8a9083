pub mod Acting
pub mod Stops
