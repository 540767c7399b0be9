-- Free slots.

use Rattle.std.specs.Prelude.{◌≡◌, ◌⊎◌, ℕ, ◌+◌, ◌-◌, ◌<◌, ◌≤◌, true, false, List, [], ◌∷◌, ◌++◌, nat_eq, refl}
use Rattle.std.specs.{Coded.{Coded, code_by, coded×, coded_ℕ, coded_list}, List.{IsDistinct, list_any, range_with_len}, Ordering.nat_cmp}
use Rattle.std.specs.FinSet as set

-- the free slots of a scheduler: how many slots it has in all, from which on none was ever taken, and those that were put
-- back, on two stacks, each from its bottom to its top
pub record Free : Type 0 where
  pub slots : ℕ
  pub fresh : ℕ
  pub short : List ℕ
  pub long : List ℕ

-- stored as a tuple of its fields
abbrev pub free_code : Coded Free
free_code =
    code_by (ℕ × (ℕ × (List ℕ × List ℕ))) (coded× coded_ℕ (coded× coded_ℕ (coded× (coded_list coded_ℕ) (coded_list coded_ℕ))))
    (λ f. (f.slots, (f.fresh, (f.short, f.long))))
    (λ t. record { slots = t.0; fresh = t.1.0; short = t.1.1.0; long = t.1.1.1 }) (λ _. refl)

-- free slots, by their parts
abbrev pub free_at : ℕ → ℕ → List ℕ → List ℕ → Free
free_at slots fresh short long = record { slots = slots; fresh = fresh; short = short; long = long }

-- all slots that are free: those on the stacks, and those that were never taken
abbrev pub free_list : Free → List ℕ
free_list f = f.short ++ (f.long ++ range_with_len f.fresh (f.slots - f.fresh))

-- the same without their order
pub record FreeSet : Type 0 where
  pub slots : ℕ
  pub held : set.FinSet nat_cmp

abbrev pub free_set : Free → FreeSet
free_set f = record { slots = f.slots; held = set.from_list (free_list f) }

-- one more slot, on the stack of short waits or on that of long ones
abbrev pub with_short : Free → ℕ → Free
with_short f slot = record f { short = f.short ++ slot ∷ [] }

abbrev pub with_long : Free → ℕ → Free
with_long f slot = record f { long = f.long ++ slot ∷ [] }

-- none is on the stack of short waits, and the least of those that were never taken is taken
pub record TakesFresh (old new : Free) (slot : ℕ) : Type 0 where
  pub none : old.short ≡ []
  pub low : old.fresh < old.slots
  pub is : slot ≡ old.fresh
  pub left : new ≡ record old { fresh = old.fresh + 1 }

-- all were taken once and none is on the stack of short waits, and the top of the other one is taken
pub record TakesLast (old new : Free) (slot : ℕ) : Type 0 where
  pub none : old.short ≡ []
  pub all : old.slots ≤ old.fresh
  pub was : old ≡ with_long new slot

-- what is taken next for a short wait: the top of the stack of short waits, else the least slot that was never taken, and else the top of
-- the stack of long waits
abbrev pub TakesNextSlot : Free → Free → ℕ → Type 0
TakesNextSlot old new slot = (old ≡ with_short new slot) ⊎ (TakesFresh old new slot ⊎ TakesLast old new slot)

-- the stacks change places
abbrev pub stacks_changed : Free → Free
stacks_changed f = record f { short = f.long; long = f.short }

-- and what is taken next for a long wait
abbrev pub TakesLong : Free → Free → ℕ → Type 0
TakesLong old new slot = TakesNextSlot (stacks_changed old) (stacks_changed new) slot

-- none is free, and nothing changes
pub record HasNoneFree (old new : Free) : Type 0 where
  pub short : old.short ≡ []
  pub all : old.slots ≤ old.fresh
  pub long : old.long ≡ []
  pub same : new ≡ old

-- each slot stands once, all are below the number of slots, and there is room for as many
pub record HasRoom (slots : ℕ) (held : List ℕ) (capacity : ℕ) : Type 0 where
  pub once : IsDistinct nat_eq held
  pub below : (slot : ℕ) → list_any (nat_eq slot) held ≡ true → slot < slots
  pub room : slots ≤ capacity

-- each stack has room for all slots, what is on it was taken once, and no slot is on both
pub record IsStacked (slots fresh : ℕ) (short long : List ℕ) (short_capacity long_capacity : ℕ) : Type 0 where
  pub short_room : HasRoom slots short short_capacity
  pub long_room : HasRoom slots long long_capacity
  pub short_taken : (slot : ℕ) → list_any (nat_eq slot) short ≡ true → slot < fresh
  pub long_taken : (slot : ℕ) → list_any (nat_eq slot) long ≡ true → slot < fresh
  pub apart : (slot : ℕ) → list_any (nat_eq slot) short ≡ true → list_any (nat_eq slot) long ≡ false
  pub fits : fresh ≤ slots
