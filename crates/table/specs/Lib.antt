pub mod Dress
pub mod Leaves
