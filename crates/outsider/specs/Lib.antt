pub mod Keeping
pub mod Lamps
pub mod Pieces
pub mod Repeats
pub mod Verdicts
