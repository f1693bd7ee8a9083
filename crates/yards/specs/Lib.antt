pub mod Yards
pub mod Judged
