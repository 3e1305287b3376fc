pub mod Tails
pub mod Held
pub mod Running
pub mod Rounding
