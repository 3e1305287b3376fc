pub mod Fields
pub mod Puts
pub mod Bytewise
pub mod Written
pub mod Packs
pub mod InRow
pub mod Left
