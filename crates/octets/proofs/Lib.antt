pub mod Able
pub mod Inverses
pub mod Records
pub mod Turns
