pub mod Faces
pub mod Shown
pub mod Ticks
