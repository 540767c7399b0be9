-- What is known of a stream of bytes or of readings. `None` tells nothing of what it has left, and stays `None`.

use Rattle.std.specs.Prelude.{◌≡◌, ℕ, ◌+◌, ◌≤◌, List, [], ◌++◌, length, Option, option_map, IfSome}

-- all that a source or a clock gave so far, and what it has left, where it tells that
pub record StreamTold (T : Type 0) : Type 0 where
  pub given : List T
  pub left : Option (List T)

-- a stream tells that it gave these and has those left
abbrev pub stream_told : {T : Type 0} → List T → Option (List T) → StreamTold T
stream_told given left = record { given = given; left = left }

-- these, and then the known ones
abbrev pub before : {T : Type 0} → List T → Option (List T) → Option (List T)
before first known = option_map (λ later. first ++ later) known

-- just these were given, which are the first of those that were left
pub record HandsOut {T : Type 0} (old new : StreamTold T) (items : List T) : Type 0 where
  pub given : new.given ≡ old.given ++ items
  pub left : old.left ≡ before items new.left

-- at most n were given
pub record HandsUpTo {T : Type 0} (n : ℕ) (old new : StreamTold T) : Type 0 where
  pub items : List T
  pub few : length items ≤ n
  pub gives : HandsOut old new items

-- n more than the known number
abbrev pub more_by : ℕ → Option ℕ → Option ℕ
more_by n room = option_map (λ r. r + n) room

-- nothing is left, where that is known
abbrev pub IsAtEnd : {T : Type 0} → Option (List T) → Type 0
IsAtEnd left = IfSome left (λ xs. xs ≡ [])

-- there is room for n bytes, where that is known
abbrev pub HasRoomFor : Option ℕ → ℕ → Type 0
HasRoomFor room n = IfSome room (λ r. n ≤ r)
