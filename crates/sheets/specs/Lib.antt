pub mod Layout
pub mod Data
pub mod Outcomes
pub mod Sections
