pub mod Counted
pub mod Places
pub mod Slotted
pub mod Sums
