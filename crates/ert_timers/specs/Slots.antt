-- What is kept of a slot, and how that is packed.

use Rattle.std.specs.Prelude.{ℕ, ◌/◌, ◌%◌, Bool, true, false, nat_eq}
use Rattle.ert_defs.specs.declared.timer.Kind.{Kind, TheVariants.{Wrapped, Bare}}
use Rattle.ert_timers.specs.declared.slot.Stored.{Stored}
use Rattle.ert_wheel.specs.declared.row.Key.{Key}
use Rattle.ert_table.specs.Ranges.{word_deadline, word_generation}

-- what is kept of a slot: the generation of its last timer, one above the greatest deadline of all its timers, and
-- destination, message and kind of the last
pub record Slot : Type 0 where
  pub generation : ℕ
  pub above : ℕ
  pub dest : ℕ
  pub msg : ℕ
  pub kind : Kind

-- whether the message goes alone, without the timer's reference
abbrev pub is_bare : Kind → Bool
is_bare Wrapped = false
is_bare Bare = true

-- the kind of a message that goes alone, or doesn't
abbrev pub kind_by : Bool → Kind
kind_by false = Wrapped
kind_by true = Bare

-- the slot of a generation, a message, and a kind, a destination below 2^19 and a deadline as one number
abbrev pub unpacked : ℕ → ℕ → ℕ → Slot
unpacked generation msg rest = record {
  generation = generation;
  above = rest / 1048576;
  dest = rest % 1048576 / 2;
  msg = msg;
  kind = kind_by (nat_eq (rest % 1048576 % 2) 1);
}

-- what is stored of a slot
abbrev pub stored_slot : Stored → Slot
stored_slot s = unpacked (word_generation s.word) s.msg s.rest

-- the key of its last row
abbrev pub stored_key : Stored → Key
stored_key s = record { deadline = word_deadline s.word; order = s.rank / 2 }

-- whether it is noted that the slot stands in the chain of its process
abbrev pub is_joined : Stored → Bool
is_joined s = nat_eq (s.rank % 2) 1

-- what is stored of a slot that was never used
abbrev pub nothing : Stored
nothing = record { word = 0; rank = 0; msg = 0; rest = 0 }
