-- Labels: the names by which the ops of a list speak of timers.

use Rattle.std.specs.Prelude.{◌≢◌, ℕ, ◌≤◌, cond, nat_eq, AllPairs, List, [], ◌∷◌, ◌++◌, length}
use Rattle.ert_defs.specs.{Timers.{same_timer, timer_at}, declared.timer.TimerRef.TimerRef}
use Rattle.ert_ops.specs.declared.op.Op.{Op, TheVariants.{Start, SendAfter}}

-- the labels of the starts among ops, in order
abbrev pub labels_in : List Op → List ℕ
labels_in [] = []
labels_in (Start l w when p msg ∷ ops) = l ∷ labels_in ops
labels_in (SendAfter l w when p msg ∷ ops) = l ∷ labels_in ops
labels_in (_ ∷ ops) = labels_in ops

-- ops of a scenario: no two starts have one label, and there are at most 100,000
pub record AreOps (ops : List Op) : Type 0 where
  pub apart : AllPairs (λ (l : ℕ) k. l ≢ k) (labels_in ops)
  pub few : length ops ≤ 100000

-- the labels of the starts that armed a timer, each with its reference, in order
abbrev pub Labels : Type 0
Labels = List (ℕ × TimerRef)

-- the reference that a label stands for: where it isn't bound, that of wheel 0, the label as slot, and
-- generation 0, which never named a timer
abbrev pub ref_of : Labels → ℕ → TimerRef
ref_of [] l = timer_at 0 l 0
ref_of (p ∷ ps) l = cond (nat_eq p.0 l) p.1 (ref_of ps l)

-- the label of the first pair with a reference, and its slot where there is none
abbrev pub label_in : Labels → TimerRef → ℕ
label_in [] r = r.slot
label_in (p ∷ ps) r = cond (same_timer p.1 r) p.0 (label_in ps r)

-- the label that a message prints for a reference: of one that never named a timer it is the slot
abbrev pub label_of : Labels → TimerRef → ℕ
label_of ps r = cond (nat_eq r.generation 0) r.slot (label_in ps r)

-- a label is bound to the reference that its start answered
abbrev pub bind : Labels → ℕ → TimerRef → Labels
bind ps l r = ps ++ (l, r) ∷ []
