pub mod Each
pub mod Frames
pub mod Laws
pub mod Reads
pub mod Writes
