-- What a pass that holds every actor knows: the whole history.

use Rattle.std.proofs.Common.{◌≡◌, ℕ, zero, suc, vec_len, ◌+◌, ◌*◌, ◌/◌, ◌%◌, ◌<◌, true, false, List, [], ◌∷◌, ◌++◌, slice_index, Option, refl, sym, ap, subst, ◌∙◌, arith, append-nil}
use lib.ListN.{get_elem?}
use mathlib.Core.Option.{some, some-injective, some-ne-none}
use Rattle.atomic_table.specs.Table.{Final, Seen}
use Rattle.ert_defs.specs.{Actors.{same_actor, has_actor, IsFree, IsCaller, IsUser}, Legal.{IsProber, IsReader, Keeps, LegalFrom, Legal}, States.{State, opening, state}, Words.{word_of, word_count}, declared.entry.Actor.Actor}
use Rattle.ert_defs.specs.{declared.entry.Actor.TheVariants.{Keeper, Sched, Caller}, declared.entry.Entry.Entry, declared.entry.Event.Event, declared.entry.Event.TheVariants.{Tick, Shift, Look, Off, Arm, Probe, Peek, Cancel, Expire}}
use Rattle.ert_defs.specs.{declared.entry.Event.TheVariants.{Orphan, Deliver, Drop, Mark, Advanced, Ask, Pick, Answer, Take, Unwatch, Watch, Tell}, declared.settings.Settings.Settings}
use Rattle.ert_defs.proofs.Runs.{legal_then, free_first}
use Rattle.ert_table.specs.{Held.{IsActor, IsWhole}, Places.{slot_place, process_place, AreWords}, Rule.{Fits, Holds}, declared.desk.Words.Words, declared.view.View.View}
use Rattle.ert_table.proofs.{Holders.{or_left, same_actor_self}, OneStep.Ruled, WordPlaces.{slot_place-high, word_of-slot, process_place-high, word_of-process}}
use Rattle.std.proofs.lemmas.Nat.{div-mul-add, mod-mul-add, mul-add-lt}

caller_in_range : (g : Settings) (a : Actor) → IsCaller g a → IsActor g a
caller_in_range g (Caller n) h = h
caller_in_range g _ h = absurd h

user_in_range : (g : Settings) (a : Actor) → IsUser g a → IsActor g a
user_in_range g (Caller n) h = h
user_in_range g (Sched n) h = h
user_in_range g _ h = absurd h

prober_in_range : (g : Settings) (w : ℕ) (by : Actor) → w < g.schedulers → IsProber g w by → IsActor g by
prober_in_range g w (Caller n) lt h = h
prober_in_range g w (Sched n) lt h = subst (λ x. x < g.schedulers) (sym h) lt
prober_in_range g w _ lt h = absurd h

reader_in_range : (g : Settings) (by : Actor) (with : Option Actor) → IsReader g by with → IsActor g by
reader_in_range g Keeper with h = tt
reader_in_range g by with h = user_in_range g by h.0

-- the maker of an entry in range is in range
pub maker_in_range : (g : Settings) (by : Actor) (with : Option Actor) (event : Event) → Keeps g by with event → IsActor g by
maker_in_range g by with (Tick reading act now) h = subst (IsActor g) (sym h.0) tt
maker_in_range g by with (Shift offset state) h = subst (IsActor g) (sym h.0) tt
maker_in_range g by with (Look now) h = user_in_range g by h.0
maker_in_range g by with (Off offset state) h = reader_in_range g by with h
maker_in_range g by with (Arm timer start) h = caller_in_range g by h.0
maker_in_range g by with (Probe wheel slot found) h = prober_in_range g wheel by h.2.wheel_high h.0
maker_in_range g by with (Peek timer left) h = user_in_range g by h.0
maker_in_range g by with (Cancel timer left) h = user_in_range g by h.0
maker_in_range g by with (Expire timer) h = subst (IsActor g) (sym h.0) h.2.wheel_high
maker_in_range g by with (Orphan timer) h = caller_in_range g by h.0
maker_in_range g by with (Deliver timer) h = subst (IsActor g) (sym h.0) h.2.wheel_high
maker_in_range g by with (Drop timer) h = subst (IsActor g) (sym h.0) h.2.wheel_high
maker_in_range g by with (Mark process exits was) h = user_in_range g by h.0
maker_in_range g by with (Advanced wheel to) h = subst (IsActor g) (sym h.0) h.2
maker_in_range g by with (Ask wheel request) h = caller_in_range g by h.0
maker_in_range g by with (Pick wheel got) h = subst (IsActor g) (sym h.0) h.2
maker_in_range g by with (Answer wheel left) h = subst (IsActor g) (sym h.0) h.2
maker_in_range g by with (Take process got) h = caller_in_range g by h.0
maker_in_range g by with (Unwatch process monitor was) h = caller_in_range g by h.0
maker_in_range g by with (Watch process monitor offset) h = caller_in_range g by h.0
maker_in_range g by with (Tell process offset) h = caller_in_range g by h.0

-- legal entries of which none has an actor in range: there are none
pub nothing_later : (g : Settings) (s : State) (m : List Entry) → LegalFrom g s m → ((a : Actor) → IsActor g a → IsFree m a)
    → m ≡ []
nothing_later g s [] legal free = refl
nothing_later g s (e ∷ m) legal free =
    let ranged = maker_in_range g e.by e.with e.event legal.0.keeps in
    let none : has_actor e e.by ≡ false = free_first e.by e m (free e.by ranged) in
    let some_one : has_actor e e.by ≡ true = or_left (same_actor e.by e.by) _ (same_actor_self e.by) in
    absurd cc

-- the front of a pass that holds every actor is the whole history
pub whole_front : (g : Settings) (h : List Entry) (v : View) → Legal g h → Fits g h v → IsWhole g v.actors → h ≡ v.front
whole_front g h v legal fit whole =
    let later = legal_then g (opening g) v.front fit.later (subst (Legal g) fit.begins legal) in
    let none : fit.later ≡ [] = nothing_later g (state g v.front) fit.later later (λ a ranged. fit.own a (whole a ranged)) in
    fit.begins ∙ (ap (λ x. v.front ++ x) none ∙ append-nil v.front)

-- the words at closing are those of the front of the pass that holds every actor
pub closed_words : (key g : Settings) (id : ℕ) (v : View) (words : List ℕ) (slots : List (Unit {0})) → key ≡ g
    → Final (Seen (Ruled key) id v) words slots → IsWhole g v.actors
    → (i : ℕ) → i < word_count g → slice_index words i ≡ word_of g (state g v.front) i
closed_words key g id v words slots same end whole i lt =
    let s = end.0 in
    let kept : Holds g s.words s.views = subst (λ k. Holds k s.words s.views) same end.1.0 in
    let front = whole_front g kept.history v kept.legal (kept.fits id v end.1.1) whole in
    ap (λ ws. slice_index ws i) (sym end.2) ∙ (kept.shown i lt ∙ ap (λ h. word_of g (state g h) i) front)

-- an element that stands in a list is read there
pub get_at : (words : List ℕ) (i n : ℕ) → get_elem? words i ≡ some n → slice_index words i ≡ n
get_at [] i n h = absurd (some-ne-none n (sym h))
get_at (x ∷ words) zero n h = some-injective x n h
get_at (x ∷ words) (suc i) n h = get_at words i n h

-- words that are read one by one from those at closing are those of the front
pub close_words : (g : Settings) (s : State) (found : ℕ → ℕ) (w : Words)
    → ((i : ℕ) → i < word_count g → found i ≡ word_of g s i)
    → w.time ≡ found 8 → w.offset ≡ found 16
    → vec_len w.timers ≡ g.schedulers * g.slots
    → ((i : ℕ) → i < g.schedulers * g.slots → slice_index w.timers.items i ≡ found (slot_place g (i / g.slots) (i % g.slots)))
    → vec_len w.processes ≡ g.processes
    → ((p : ℕ) → p < g.processes → slice_index w.processes.items p ≡ found (process_place g p))
    → AreWords g s w
close_words g s found w shown time offset timers_length timers processes_length processes = record {
  time = time ∙ shown 8 (omega arith);
  offset = offset ∙ shown 16 (omega arith);
  timers_length = timers_length;
  timers = λ wheel slot low lt.
      let i : ℕ = wheel * g.slots + slot in
      let within : i < g.schedulers * g.slots = omega (arith, mul-add-lt wheel g.slots slot g.schedulers low lt) in
      let place : slot_place g (i / g.slots) (i % g.slots) ≡ slot_place g wheel slot =
      ap (λ x. slot_place g x (i % g.slots)) (div-mul-add wheel g.slots slot lt)
      ∙ ap (λ x. slot_place g wheel x) (mod-mul-add wheel g.slots slot lt) in
      timers i within
      ∙ (ap found place ∙ (shown (slot_place g wheel slot) (slot_place-high g wheel slot low lt) ∙ word_of-slot g s wheel slot low lt));
  processes_length = processes_length;
  processes = λ p lt. processes p lt ∙ (shown (process_place g p) (process_place-high g p lt) ∙ word_of-process g s p lt);
}
