pub mod Logs
pub mod Unruns
