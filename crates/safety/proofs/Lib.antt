mod Plan
mod Situation
mod Invariant
mod Grants
pub mod Requests
pub mod Locks
mod Moves
mod Ways
mod Frames
pub mod Onwards
pub mod Passings
pub mod Turns
pub mod Safe
pub mod Stations
pub mod Kept
pub mod Rows
pub mod Actions
pub mod Acting
pub mod Denied
pub mod Requesting
pub mod Granting
pub mod Releasing
pub mod Cases
pub mod Leading
pub mod Ended
pub mod Moving
pub mod Trains
pub mod Theorem
