pub mod Signals
pub mod Locks
