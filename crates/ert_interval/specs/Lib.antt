pub mod Calls
pub mod Deadlines
pub mod Going
pub mod Intervals
pub mod Spared
pub mod Turns
