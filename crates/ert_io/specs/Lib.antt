pub mod Clocks
pub mod Faults
pub mod Host
pub mod Known
pub mod Memory
pub mod Reads
pub mod Told
pub mod Writing
