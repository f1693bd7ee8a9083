pub mod Levers
