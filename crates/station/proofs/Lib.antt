pub mod Alike
pub mod Paths
pub mod Covers
pub mod Joints
