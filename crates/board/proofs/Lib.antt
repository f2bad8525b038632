pub mod Marks
pub mod Named
pub mod Pinned
