pub mod Levels
pub mod Counts
pub mod Rows
pub mod Stays
pub mod Sounds
pub mod Parts
