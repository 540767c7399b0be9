pub mod Laws
pub mod Numbers
pub mod Passes
pub mod Plain
pub mod Rule
pub mod Stamps
pub mod Steps
pub mod Views
