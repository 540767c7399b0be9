pub mod Books
pub mod Fitting
pub mod Handing
pub mod Living
pub mod Messages
pub mod Promised
pub mod Registrars
pub mod Waiting
