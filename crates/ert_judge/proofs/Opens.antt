-- A judge at the opening stands for the empty history.

use Rattle.std.proofs.Common.{arith, ◌≡◌, [], ℕ, zero, suc, refl, sym, ap, ◌∙◌, List, length}
use Rattle.std.specs.Prelude.{get_or, replicate}
use Rattle.std.proofs.lemmas.List.{length-replicate}
use Rattle.ert_defs.specs.{Clocks.first_clock, Mails.idle_sched, States.opening, declared.entry.Actor.Actor, declared.entry.Actor.TheVariants.{Keeper, Wheel, Inbox, Sched, MailOf, Caller}, declared.settings.Settings.Settings}
use Rattle.ert_judge.specs.{Parts.{LastLooks, no_looks, look_of, inbox_at, sched_at}, Shown.{shown, IsOpening, HasFollowed}, Uses.uses_in, Wheels.{timers_at, rows_of, status_among, IsOwn}, declared.judge.Judge.Judge}
use Rattle.ert_judge.specs.{declared.state.wheels.Timer.Timer}
use Rattle.ert_judge.proofs.Stands.{same_states}

-- each cell is as at the opening
pub cell_opening : {X : Type 0} (n i : ℕ) (d : X) → get_or (replicate n d) i d ≡ d
cell_opening zero i d = refl
cell_opening (suc n) zero d = refl
cell_opening (suc n) (suc i) d = cell_opening n i d

look_opening : (g : Settings) (a : Actor) → look_of (no_looks g) a ≡ g.start
look_opening g (Caller n) = cell_opening g.callers n g.start
look_opening g (Sched n) = cell_opening g.schedulers n g.start
look_opening g Keeper = refl
look_opening g (Wheel w) = refl
look_opening g (Inbox w) = refl
look_opening g (MailOf p) = refl

-- no wheel has a timer
none_at : (g : Settings) (j : Judge) (w : ℕ) → IsOpening g j → timers_at j.timers w ≡ []
none_at g j w is = ap (λ ws. timers_at ws w) is.timers ∙ cell_opening g.schedulers w []

own_none : (w : ℕ) (ts : List Timer) → ts ≡ [] → IsOwn w ts
own_none w ts e = rw e (λ k d low. absurd (omega arith))

-- so a judge stands for it
pub stands_open : (g : Settings) (j : Judge) → IsOpening g j → HasFollowed g [] j
stands_open g j is = record {
  settings = is.settings;
  legal = tt;
  clock = is.clock;
  kept = same_states (opening g) (shown (first_clock g) j) refl
      (λ a. sym (ap (λ l. look_of l a) is.looks ∙ look_opening g a))
      (λ w. sym (ap rows_of (none_at g j w is)))
      (λ w k. sym (ap (λ ts. uses_in ts k) (none_at g j w is)))
      (λ r. sym (ap (λ ts. status_among ts r) (none_at g j r.wheel is)))
      (λ p. sym (is.exits p))
      (λ p. sym (is.mailboxes p))
      (λ w. sym (ap (λ xs. inbox_at xs w) is.inboxes ∙ cell_opening g.schedulers w []))
      (λ w. sym (ap (λ xs. sched_at xs w) is.schedulers ∙ cell_opening g.schedulers w idle_sched));
  own = λ w. own_none w (timers_at j.timers w) (none_at g j w is);
  callers = ap (λ (l : LastLooks). length l.callers) is.looks ∙ length-replicate g.callers g.start;
  lookers = ap (λ (l : LastLooks). length l.schedulers) is.looks ∙ length-replicate g.schedulers g.start;
  wheels = ap length is.timers ∙ length-replicate g.schedulers [];
  inboxes = ap length is.inboxes ∙ length-replicate g.schedulers [];
  schedulers = ap length is.schedulers ∙ length-replicate g.schedulers idle_sched;
}
