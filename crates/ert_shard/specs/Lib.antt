pub mod Hubs
pub mod OneHistory
pub mod Receiving
pub mod Renewing
pub mod Serving
pub mod Shards
pub mod Sleeping
pub mod Turning
