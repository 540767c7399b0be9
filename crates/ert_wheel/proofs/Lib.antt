mod Due
mod Fieldless
mod KeptSlots
mod MovesOn
mod Opening
mod Replacing
mod Seen
mod Splice
mod Stored
mod Unsplice
mod WindowBits
mod Writes
pub mod Behind
pub mod Calls
pub mod Climbing
pub mod Closer
pub mod Collect
pub mod Collecting
pub mod Counting
pub mod Empties
pub mod Enters
pub mod Fallen
pub mod Falls
pub mod Following
pub mod Homes
pub mod Lists
pub mod Looking
pub mod MarkBits
pub mod Least
pub mod Near
pub mod NextDue
pub mod Risen
pub mod Parts
pub mod Renumber
pub mod Reaching
pub mod Standing
pub mod StandsOn
pub mod Staying
pub mod Steps
pub mod Views
pub mod TakesMore
pub mod Times
pub mod Told
pub mod Turning
pub mod Tellers
