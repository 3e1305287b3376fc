pub mod Took
pub mod Put
pub mod Back
pub mod Told
pub mod InRow
pub mod Writes
