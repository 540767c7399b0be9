pub mod Hands
pub mod KindLaws
pub mod Kinds
pub mod Lent
pub mod Names
pub mod Passes
