pub mod Matching
pub mod Opening
pub mod Grants
pub mod Moves
pub mod Steps
