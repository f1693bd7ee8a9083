pub mod Station
pub mod Numbers
pub mod Subroutes
pub mod Joints
pub mod Alike
pub mod Paths
pub mod Covers
