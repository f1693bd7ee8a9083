pub mod Breaches
pub mod Soundness
pub mod Consequences
