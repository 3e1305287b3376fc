pub mod Shapes
pub mod Shown
pub mod Known
