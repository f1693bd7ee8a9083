pub mod Octets
pub mod Faults
pub mod Tokens
pub mod Ahead
pub mod Out
