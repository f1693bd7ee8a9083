pub mod Seen
pub mod Courses
