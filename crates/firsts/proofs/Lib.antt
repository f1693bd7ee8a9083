pub mod Steps
pub mod Below
pub mod Elements
pub mod Firsts
pub mod Found
pub mod Lowest
pub mod Seen
