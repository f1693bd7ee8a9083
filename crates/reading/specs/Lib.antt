pub mod Resolve
pub mod Entries
pub mod Tables
pub mod Reading
