-- How what callers see of a part is stored: as tuples of its fields.

use Rattle.std.specs.Prelude.{◌≡◌, ℕ, Bool, refl}
use Rattle.std.specs.Coded.{Coded, code_by, coded×, coded_ℕ, coded_bool}
use Rattle.ert_defs.specs.declared.timer.Kind.{Kind, TheVariants.{Wrapped, Bare}}
use Rattle.ert_timers.specs.Slots.{Slot, is_bare, kind_by}
use Rattle.ert_wheel.specs.declared.row.Key.{Key}

-- each kind comes back from that
pub kind_back : (kind : Kind) → kind_by (is_bare kind) ≡ kind
kind_back Wrapped = refl
kind_back Bare = refl

-- a kind is stored as whether it is bare
abbrev pub kind_code : Coded Kind
kind_code = code_by Bool coded_bool is_bare kind_by kind_back

-- what is kept of a slot is stored as a tuple: generation, one above the greatest deadline, destination,
-- message and kind
abbrev pub slot_code : Coded Slot
slot_code =
    code_by (ℕ × (ℕ × (ℕ × (ℕ × Kind)))) (coded× coded_ℕ (coded× coded_ℕ (coded× coded_ℕ (coded× coded_ℕ kind_code))))
    (λ s. (s.generation, (s.above, (s.dest, (s.msg, s.kind)))))
    (λ t. record { generation = t.0; above = t.1.0; dest = t.1.1.0; msg = t.1.1.1.0; kind = t.1.1.1.1 }) (λ _. refl)

-- the key of a row is stored as a pair: deadline and order
abbrev pub key_code : Coded Key
key_code =
    code_by (ℕ × ℕ) (coded× coded_ℕ coded_ℕ) (λ k. (k.deadline, k.order))
    (λ p. record { deadline = p.0; order = p.1 }) (λ _. refl)
