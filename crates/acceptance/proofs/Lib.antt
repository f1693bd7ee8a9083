pub mod Verdicts
pub mod Consequences
