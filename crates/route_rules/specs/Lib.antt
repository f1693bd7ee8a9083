pub mod Path
pub mod Signals
pub mod Request
pub mod Activation
