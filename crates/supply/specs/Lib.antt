pub mod Supplies
pub mod Window
pub mod Windows
pub mod Greatest
