pub mod Advancing
pub mod Called
pub mod Cut
pub mod Deliveries
pub mod Forgets
pub mod Given
pub mod Gone
pub mod Home
pub mod Kept
pub mod Lived
pub mod MoreLeft
pub mod Parted
pub mod Probing
pub mod Received
pub mod Rejoined
pub mod Renewed
pub mod Requested
pub mod RoomChanged
pub mod Returned
mod Searching
pub mod Seats
pub mod Served
pub mod Stepped
pub mod Ticked
pub mod Turned
mod TriedHeld
mod Partners
