pub mod Conflicts
pub mod Marks
