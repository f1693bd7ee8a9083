pub mod Release
pub mod Points
