-- What every step of a world leaves as it is.

use Rattle.std.specs.Prelude.{◌≡◌, ℕ, ◌<◌, List, [], ◌∷◌, ◌++◌, filter, length, Option, Some, None, slice_index_or}
use Rattle.std.proofs.Common.{refl, ap, append-nil, append_assoc, subst, sym, ◌∙◌}
use Rattle.std.proofs.{Math.Nat.{le_refl, le_trans, lt_of_lt_of_le}, lemmas.List.Elements.filter-append}
use Rattle.ert_defs.specs.declared.{entry.Entry.Entry, timer.TimerRef.TimerRef}
use Rattle.ert_timers.specs.{Freeing.IsHeld, Parts.{Part, last_timer}, Slots.Slot, Passed.LosesRows}
use Rattle.ert_wheel.specs.{Rows.key_in, declared.row.Key.Key}
use Rattle.ert_mail.specs.Turns.{TurnRow}
use Rattle.ert_world.specs.{Ways.is_unseated, Worlds.{Seen, ForgetsCancelled, HasForgottenAll, HasPassedAt, LoseRows, TurnsGrow}}
use Rattle.ert_wheel.proofs.StandsOn.{stay_all, stay_then}

-- the desk, its settings, the clock and the seats stay, who waits for a turn keeps its place, no row of a timer comes, each slot
-- that a wheel held free is so still, and the wheels forget what the world cancelled
pub record Stays (old new : Seen) : Type 0 where
  pub table : new.table ≡ old.table
  pub settings : new.settings ≡ old.settings
  pub next : new.next ≡ old.next
  pub clock : new.clock ≡ old.clock
  pub turns : TurnsGrow old.turns new.turns
  pub rows : LoseRows old new
  pub forgotten : ForgetsCancelled old new

-- a row that is held was held before
held_before : (p q : Part) (timer : TimerRef) → LosesRows p q → IsHeld q timer → IsHeld p timer
held_before p q timer loses held = record {
  low = subst (λ (slots : List Slot). timer.slot < length slots) loses.slots held.low;
  named = held.named ∙ (ap (λ n. last_timer n q.slots timer.slot) loses.number ∙ ap (λ slots. last_timer p.number slots timer.slot) loses.slots);
  row = λ none. held.row (at (key_in q.keys timer.slot) refl none);
}
  where
    at : (o : Option Key) → key_in q.keys timer.slot ≡ o → key_in p.keys timer.slot ≡ None → key_in q.keys timer.slot ≡ None
    at None is none = is
    at (Some key) is none = (let clash : None ≡ Some key = sym none ∙ loses.left timer.slot key is in absurd cc)

-- what is forgotten stays so where rows go
pub forgotten_on : (b c : Seen) (es : List Entry) → LoseRows b c → HasForgottenAll b es → HasForgottenAll c es
forgotten_on b c [] rows gone = tt
forgotten_on b c (e ∷ es) rows gone =
    (λ timer left is d held. gone.0 timer left is d (held_before _ _ timer (rows timer.wheel d) held), forgotten_on b c es rows gone.1)

forgotten_append : (w : Seen) (es fs : List Entry) → HasForgottenAll w es → HasForgottenAll w fs → HasForgottenAll w (es ++ fs)
forgotten_append w [] fs one other = other
forgotten_append w (e ∷ es) fs one other = (one.0, forgotten_append w es fs one.1 other)

forgets_then : (a b c : Seen) → ForgetsCancelled a b → ForgetsCancelled b c → b.next ≡ a.next → LoseRows b c → ForgetsCancelled a c
forgets_then a b c one other next rows = record {
  piece = one.piece ++ other.piece;
  grown = other.grown ∙ (ap (λ h. h ++ other.piece) one.grown ∙ append_assoc a.history one.piece other.piece);
  forgotten = subst (HasForgottenAll c) (sym (filter-append (is_unseated a.next) one.piece other.piece))
      (forgotten_append c (filter (is_unseated a.next) one.piece) (filter (is_unseated a.next) other.piece)
      (forgotten_on b c (filter (is_unseated a.next) one.piece) rows one.forgotten)
      (subst (λ n. HasForgottenAll c (filter (is_unseated n) other.piece)) next other.forgotten));
}

-- a row stays as it is
pub turns_same : (o : Option TurnRow) → TurnsGrow o o
turns_same None = refl
turns_same (Some row) = ([], ap (λ (held : List ℕ). Some (record row { held = held })) (sym (append-nil row.held)))

-- and grows further
pub turns_then : (a b c : Option TurnRow) → TurnsGrow a b → TurnsGrow b c → TurnsGrow a c
turns_then None b c one other = subst (λ (o : Option TurnRow). TurnsGrow o c) one other
turns_then (Some row) b c one other =
    let far : TurnsGrow (Some (record row { held = row.held ++ one.0 })) c = subst (λ (o : Option TurnRow). TurnsGrow o c) one.1 other in
    (one.0 ++ far.0, far.1 ∙ ap (λ (held : List ℕ). Some (record row { held = held })) (append_assoc row.held one.0 far.0))

pub stay : (a b c : Seen) → Stays a b → Stays b c → Stays a c
stay a b c one other = record {
  table = other.table ∙ one.table;
  settings = other.settings ∙ one.settings;
  next = other.next ∙ one.next;
  clock = other.clock ∙ one.clock;
  turns = turns_then a.turns b.turns c.turns one.turns other.turns;
  rows = λ i d. (let first = one.rows i d in let second = other.rows i d in record {
    number = second.number ∙ first.number;
    slots = second.slots ∙ first.slots;
    left = λ k key is. first.left k key (second.left k key is);
    time = le_trans first.time second.time;
    frees = λ k was. second.frees k (first.frees k was);
    stands = stay_then second.time second.left first.stands second.stands;
  });
  forgotten = forgets_then a b c one.forgotten other.forgotten one.next other.rows;
}

pub same : (a : Seen) → Stays a a
same a = record {
  table = refl;
  settings = refl;
  next = refl;
  clock = refl;
  turns = turns_same a.turns;
  rows = λ i d. record { number = refl; slots = refl; left = λ k key is. is; time = le_refl (slice_index_or a.wheels i d).passed; frees = λ k was. was; stands = stay_all _ _ _ };
  forgotten = record { piece = []; grown = sym (append-nil a.history); forgotten = tt };
}

-- a scheduler in range stays so
pub in_range : (a b : Seen) (sched : ℕ) → Stays a b → sched < a.settings.schedulers → sched < b.settings.schedulers
in_range a b sched stays low = subst (λ g. sched < g.schedulers) (sym stays.settings) low

-- a wheel all of whose rows are later than a time stays so
pub still_passed : (a b : Seen) (sched to : ℕ) → Stays a b → HasPassedAt a sched to → HasPassedAt b sched to
still_passed a b sched to stays passed d = record {
  left = λ k key is. (passed d).left k key ((stays.rows sched d).left k key is);
  on = lt_of_lt_of_le (passed d).on (stays.rows sched d).time;
}
