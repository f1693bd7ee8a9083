pub mod Eaches
pub mod Ways
pub mod Answered
pub mod Points
pub mod Moves
pub mod Trains
