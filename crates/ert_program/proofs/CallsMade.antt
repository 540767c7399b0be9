-- Ops that were done, and labels that are looked up twice.

use Rattle.std.proofs.Common.{rules, ◌≡◌, ℕ, Bool, true, false, cond, nat_eq, [], ◌∷◌, ◌++◌, List, Some, None, Ok, Err, refl, sym}
use Rattle.ert_effects.specs.Ways.{beside}
use Rattle.ert_defs.specs.declared.{entry.Actor.TheVariants.Caller, entry.Entry.Entry, memory.NoMemory.NoMemory, settings.Settings.Settings, timer.TimerRef.TimerRef}
use Rattle.ert_ops.specs.{declared.op.Op.Op, Labels.{Labels, ref_of}, Scripts.labels_after, declared.reply.Reply.Reply}
use Rattle.ert_program.specs.Workers.{AnswersOwn}
use Rattle.ert_script.proofs.Answered.{unbound}
use Rattle.ert_script.specs.{Doing.{IsAnswered, IsTimerOf, HasStarted}, LabelMaps.first_ref}

-- a label that is bound in the first of two lists
pub ref_first : (ls own : Labels) (label : ℕ) (timer : TimerRef) → Some timer ≡ first_ref ls label → ref_of (ls ++ own) label ≡ timer
ref_first [] own label timer found = absurd search rules
ref_first (p ∷ ps) own label timer found = at (nat_eq p.0 label) found (λ later. ref_first ps own label timer later)
  where
    at : (b : Bool) → Some timer ≡ cond b (Some p.1) (first_ref ps label) → (Some timer ≡ first_ref ps label → ref_of (ps ++ own) label ≡ timer)
        → cond b p.1 (ref_of (ps ++ own) label) ≡ timer
    at true here later = let same : timer ≡ p.1 = cc in sym same
    at false here later = later here

-- a label that is bound in the second alone
pub ref_second : (ls own : Labels) (label : ℕ) → None ≡ first_ref ls label → ref_of (ls ++ own) label ≡ ref_of own label
ref_second [] own label none = refl
ref_second (p ∷ ps) own label none = at (nat_eq p.0 label) none (λ later. ref_second ps own label later)
  where
    at : (b : Bool) → None ≡ cond b (Some p.1) (first_ref ps label) → (None ≡ first_ref ps label → ref_of (ps ++ own) label ≡ ref_of own label)
        → cond b p.1 (ref_of (ps ++ own) label) ≡ ref_of own label
    at true here later = absurd cc
    at false here later = later here

module _ (g : Settings) (n : ℕ) (known own : Labels) (op : Op) (timer : TimerRef) (f h : List Entry) (of : IsTimerOf (known ++ own) op timer) where
  -- an op was done, and its label bound
  pub own_done : (reply : Reply) (own_new : Labels) → IsAnswered g (beside g (Caller n)) n op timer (Ok reply) f h → own_new ≡ labels_after own op reply
      → AnswersOwn g n known own op (Ok reply) own_new f h
  own_done reply own_new answered bound = record { does = record { does = answered.does (known ++ own) of; labels = bound }; fails = tt }

  -- there was no memory for its call
  pub own_failed : (e : NoMemory) (own_new : Labels) → IsAnswered g (beside g (Caller n)) n op timer (Err e) f h → AnswersOwn g n known own op (Err e) own_new f h
  own_failed e own_new answered = record { does = tt; fails = answered.fails (known ++ own) of }

  -- there was none for its label
  pub own_unbound : (reply : Reply) (e : NoMemory) (own_new : Labels) → IsAnswered g (beside g (Caller n)) n op timer (Ok reply) f h → HasStarted op reply
      → AnswersOwn g n known own op (Err e) own_new f h
  own_unbound reply e own_new answered has = record {
    does = tt;
    fails = unbound g (beside g (Caller n)) n (known ++ own) op reply f h has (answered.does (known ++ own) of);
  }
