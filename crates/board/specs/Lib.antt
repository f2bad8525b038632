pub mod Sound
pub mod Layout
pub mod Crossing
