pub mod Bodies
pub mod Drafts
pub mod Whole
