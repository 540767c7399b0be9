pub mod Carried
pub mod Cast
pub mod Heap
pub mod Sharing
pub mod Ways
mod Placed
