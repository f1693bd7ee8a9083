pub mod Verdicts
pub mod Places
