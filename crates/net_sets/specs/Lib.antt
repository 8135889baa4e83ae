pub mod Joints
pub mod Sets
