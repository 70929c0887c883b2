pub mod Rows
pub mod Found
pub mod Dispatcher
pub mod Keys
pub mod Times
pub mod Entries
