pub mod Holds
pub mod Rounds
