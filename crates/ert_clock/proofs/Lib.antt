pub mod Casts
pub mod Rules
pub mod Stand
pub mod Steps
