pub mod Laws
pub mod Loops
pub mod Leads
pub mod Clauses
pub mod Turns
pub mod Pinned
