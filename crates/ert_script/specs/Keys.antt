-- The keys by which an index finds the label of a timer.

use Rattle.std.specs.Prelude.{ℕ}
use Rattle.std.specs.{Ordering.{nat_cmp, ordering_then}, declared.cmp.Ordering.Ordering}
use Rattle.ert_defs.specs.declared.timer.TimerRef.{TimerRef}

-- the key of a reference: its wheel, slot and generation
abbrev pub key_of_timer : TimerRef → ℕ × ℕ × ℕ
key_of_timer r = (r.wheel, r.slot, r.generation)

-- the order of keys: by wheel, then by slot, then by generation
abbrev pub key_cmp : ℕ × ℕ × ℕ → ℕ × ℕ × ℕ → Ordering
key_cmp x y = ordering_then (ordering_then (nat_cmp x.0 y.0) (nat_cmp x.1 y.1)) (nat_cmp x.2 y.2)
