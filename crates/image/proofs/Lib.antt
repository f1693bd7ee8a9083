pub mod Able
pub mod Cuts
pub mod Fours
pub mod Making
pub mod Wholes
