pub mod Lines
pub mod Cycles
pub mod Distinct
pub mod Onward
pub mod Ended
pub mod Lawfulness
