pub mod ArmedLaws
mod CellLaws
mod EventsExclude
mod FindLaws
mod Finds
mod FirstArmed
mod FirstLaws
mod Goes
mod Highs
mod InRange
mod IndexLaws
mod Knows
mod Makers
mod MoveLaws
mod NewTimers
mod NextUses
mod Opens
mod PairLaws
mod Pieces
mod PlaceLaws
mod Seen
mod Stands
mod TimerLaws
mod TimersGo
pub mod UseLaws
mod Walks
pub mod WheelLaws
mod WheelTests
