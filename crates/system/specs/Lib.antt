pub mod Steps
pub mod Rows
pub mod Files
pub mod Bodies
pub mod Whole
pub mod Walks
pub mod Instances
