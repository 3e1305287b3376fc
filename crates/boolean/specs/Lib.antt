pub mod Steps
pub mod Files
pub mod Ranked
pub mod Solvers
