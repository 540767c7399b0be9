-- What a sink tells of itself, and what it tells after it took a text.

use Rattle.std.specs.Prelude.{◌≡◌, ℕ, ◌-◌, List, ◌++◌, length, Option, option_map}

-- the bytes that a sink took, and the room that it has, where it tells that
pub record SinkTold : Type 0 where
  pub taken : List ℕ
  pub room : Option ℕ

-- a sink tells that it took these bytes and has this room
abbrev pub sink_told : List ℕ → Option ℕ → SinkTold
sink_told taken room = record { taken = taken; room = room }

-- the room that is left after so many bytes
abbrev pub room_left : ℕ → Option ℕ → Option ℕ
room_left n room = option_map (λ r. r - n) room

-- it took a text: its bytes are there, and its room is less by as many
abbrev pub took : SinkTold → List ℕ → SinkTold
took t text = sink_told (t.taken ++ text) (room_left (length text) t.room)

-- it took the first part of a text
pub record TakesFront (old new : SinkTold) (text : List ℕ) : Type 0 where
  pub front : List ℕ
  pub others : List ℕ
  pub took : new ≡ took old front
  pub whole : front ++ others ≡ text
