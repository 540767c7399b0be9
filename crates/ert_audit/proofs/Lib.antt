mod Completes
mod Messages
mod OneVerdict
mod Texts
pub mod ActorFormats
pub mod Digits
pub mod EntryFormats
pub mod FirstLines
pub mod Formats
pub mod Integers
pub mod Left
pub mod LineFormats
pub mod OneSpelling
pub mod PartFormats
pub mod Splits
pub mod Stops
pub mod Tables
pub mod Unseen
pub mod WordFormats
