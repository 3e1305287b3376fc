pub mod Fields
pub mod Rows
pub mod Arms
pub mod Laws
pub mod Folds
pub mod Wholes
