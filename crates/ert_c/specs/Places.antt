-- What a place owns.

use Rattle.std.specs.Prelude.{Option, Some, None, Bool}
use Rattle.std.specs.Option.{is_some}
use Rattle.std_alloc.specs.Box.Ownership.{box_owns}
use Rattle.std_heap.specs.contracts.GlobalAllocator.TheImpl.{ghosts}
use base.Fml.{Fml, ftrue}
use denote.RattleType.{RattleType}
use denote.RawPtr.{Ptr}
use mir.Syntax.{Ty}

-- the right to free a block of the heap, which was allocated for a type
abbrev pub chunk : Ty → Ptr → Fml
chunk = ghosts.dealloc_token (record { memory = record { seal = tt } })

-- the value and the right to free its memory, where there is one
abbrev pub held : (R : RattleType) → Ptr → Option R.Denot → Fml
held R p (Some x) = box_owns chunk R p x
held R p None = ftrue

-- whether something stands behind a handle
abbrev pub is_there : {W : Type 0} → Option W → Bool
is_there = is_some
