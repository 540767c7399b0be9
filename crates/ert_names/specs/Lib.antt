pub mod Calls
pub mod Fits
pub mod Handing
pub mod Living
pub mod Names
pub mod Openings
pub mod Promised
pub mod Registered
