pub mod Mailboxes
pub mod Inboxes
pub mod Laws
pub mod Lists
pub mod Steps
pub mod Turns
