pub mod Words
pub mod Things
pub mod Heads
pub mod States
pub mod Lists
