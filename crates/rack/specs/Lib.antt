pub mod Cycle
pub mod Kept
pub mod Least
pub mod Sums
pub mod Slots
pub mod CycleLemmas
pub mod LeastLemmas
