pub mod States
pub mod Views
pub mod Tests
pub mod Firsts
pub mod Weaker
pub mod Weakening
