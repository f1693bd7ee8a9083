pub mod Histories
pub mod Safety
