pub mod Keys
pub mod Index
pub mod Unknown
pub mod Missing
