pub mod Least
pub mod Lent
pub mod Own
pub mod Scheds
