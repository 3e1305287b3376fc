pub mod Comes
pub mod Learned
pub mod Letters
pub mod Meanings
pub mod Planned
pub mod Plans
pub mod Rewrites
