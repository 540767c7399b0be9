pub mod Doing
pub mod Keys
pub mod LabelMaps
pub mod Pages
pub mod Replies
pub mod Scripts
pub mod Told
pub mod Written
