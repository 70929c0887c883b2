pub mod Laid
pub mod Pages
pub mod Listing
pub mod Refusals
