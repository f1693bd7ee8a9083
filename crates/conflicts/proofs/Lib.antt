pub mod Shown
pub mod Told
pub mod Agreed
