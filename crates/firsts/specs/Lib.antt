pub mod Search
pub mod Claims
pub mod Lists
pub mod Least
pub mod Picks
