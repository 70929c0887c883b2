pub mod Laying
pub mod Lengths
pub mod Listed
pub mod Verdicts
