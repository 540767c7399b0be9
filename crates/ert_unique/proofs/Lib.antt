pub mod Totals
pub mod Passing
pub mod Drawing
pub mod Dividing
pub mod FirstHolds
pub mod Closing
pub mod Gathering
pub mod Differing
