pub mod Dividing
pub mod Fronts
pub mod Gathering
pub mod Joining
pub mod Settled
