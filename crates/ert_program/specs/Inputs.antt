-- How a command ends that reads an input.

use Rattle.std.specs.Prelude.{◌≡◌, ◌≢◌, ◌≤◌, ◌⊎◌, ℕ, List, Option, Some, length, IfSome}
use Rattle.ert_io.specs.{Faults.Rose, Known.HandsUpTo, Reads.{Input, ReadsAll, ReadsMore}, Told.{SinkTold, took, TakesFront}}
use Rattle.ert_program.specs.{Streams.Output, declared.ending.EndStatus.EndStatus, declared.ending.EndStatus.TheVariants.{Done, Usage, Refused, ReadFault, WriteFault, ClockFault, NoMemory, TooLong}}

-- which texts may be written of these bytes
abbrev pub Writing : Type 1
Writing = List ℕ → List ℕ → Type 0

-- before they are read: these bytes may be the whole input, as far as it tells what it has left
pub record IsPossibleInput (left : Option (List ℕ)) (bytes : List ℕ) : Type 0 where
  pub whole : IfSome left (λ all. all ≡ bytes)
  pub short : length bytes ≤ 16777216

-- all bytes were read, and a text of them was written
pub record WritesAll (may : Writing) (i j : Input) (old new : SinkTold) : Type 0 where
  pub bytes : List ℕ
  pub takes : ReadsAll i j bytes
  pub text : List ℕ
  pub is : may bytes text
  pub writes : new ≡ took old text

-- all bytes were read, and the first part of a text of them was written
pub record WritesSomeOf (may : Writing) (i j : Input) (old new : SinkTold) : Type 0 where
  pub bytes : List ℕ
  pub takes : ReadsAll i j bytes
  pub text : List ℕ
  pub is : may bytes text
  pub writes : TakesFront old new text

-- all bytes were read, and there is no text of them: they are no scenario
pub record ReadsNone (may : Writing) (i j : Input) : Type 0 where
  pub bytes : List ℕ
  pub takes : ReadsAll i j bytes
  pub none : (text : List ℕ) → may bytes text → ⊥

-- the command came to an end, between two moments of the input and of the output: `does` is what it writes of bytes that
-- are a scenario, and `part` that, or where it came no further
pub record InputEnds (does part : Writing) (i j : Input) (o p : Output) (status : EndStatus) : Type 0 where
  pub done : status ≡ Done → WritesAll does i j o.told p.told
  pub refused : status ≡ Refused → ReadsNone part i j
  pub read_fault : status ≡ ReadFault → Rose i.faults j.faults × HandsUpTo 16777216 i.told j.told × (p ≡ o)
  pub too_long : status ≡ TooLong → ReadsMore i j × (p ≡ o)
  -- after a failed write, or without memory, the first part of what would have been written stands
  pub write_fault : status ≡ WriteFault → Rose o.faults p.faults × (WritesSomeOf part i j o.told p.told ⊎ ReadsNone part i j)
  pub no_memory : status ≡ NoMemory
      → HandsUpTo 16777217 i.told j.told × ((p ≡ o) ⊎ WritesSomeOf part i j o.told p.told ⊎ ReadsNone part i j)
  pub others : (status ≢ Usage) × (status ≢ ClockFault)
  -- where nothing fails and the input is a scenario, only running out of memory keeps it from being done
  pub complete : (Rose i.faults j.faults → ⊥) → (Rose o.faults p.faults → ⊥)
      → (bytes text : List ℕ) → i.told.left ≡ Some bytes → length bytes ≤ 16777216 → part bytes text → (status ≡ Done) ⊎ (status ≡ NoMemory)
