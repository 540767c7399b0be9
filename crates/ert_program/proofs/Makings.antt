-- What an actor made, seen in a whole history; and who makes the entries of a legal one.

use Rattle.std.proofs.Common.{◌≡◌, ℕ, ◌<◌, All, List, [], ◌∷◌, ◌++◌, Option, sym, ap, subst, ◌∙◌, append_assoc}
use Rattle.std.proofs.lemmas.List.{append_cancel_left, Elements.{All-nil, All-cons}}
use Rattle.ert_effects.specs.Ways.{Growth, Grows}
use Rattle.ert_defs.proofs.Runs.{legal_then}
use Rattle.ert_defs.specs.{Actors.{IsFree, IsCaller, IsUser, IsMaker}, Legal.{Keeps, IsReader, IsProber, LegalFrom, Legal}, States.{State, opening, state, next}, declared.entry.Actor.Actor, declared.entry.Actor.TheVariants.{Keeper, Sched}}
use Rattle.ert_defs.specs.{declared.entry.Actor.TheVariants.Caller, declared.entry.Entry.Entry, declared.entry.Event.Event, declared.entry.Event.TheVariants.{Tick, Shift, Look, Off, Arm, Probe, Peek, Cancel, Expire, Orphan, Deliver, Drop}}
use Rattle.ert_defs.specs.{declared.entry.Event.TheVariants.{Mark, Advanced, Ask, Pick, Answer, Take, Unwatch, Watch, Tell}, declared.settings.Settings.Settings}
use Rattle.ert_program.specs.Made.{MakesInStretch}

-- a call that an actor's front has grown by is made in the history, where what comes after the front is free
-- of the actor
pub made : (a : Actor) (call : Growth) (f front h stretch later : List Entry) → Grows call f front → h ≡ front ++ later → IsFree later a
    → h ≡ f ++ stretch → MakesInStretch a call f stretch
made a call f front h stretch later grows longer free grown = record {
  pieces = grows.piece;
  after = later;
  parted = append_cancel_left f stretch (grows.piece ++ later)
      (sym grown ∙ (longer ∙ (ap (λ l. l ++ later) grows.grown ∙ append_assoc f grows.piece later)));
  made = grows.made;
  away = free;
}

by_keeper : (g : Settings) (by : Actor) → by ≡ Keeper → IsMaker g by
by_keeper g by is = subst (IsMaker g) (sym is) tt

by_sched : (g : Settings) (by : Actor) (w : ℕ) → by ≡ Sched w → w < g.schedulers → IsMaker g by
by_sched g by w is low = subst (IsMaker g) (sym is) low

by_caller : (g : Settings) (by : Actor) → IsCaller g by → IsMaker g by
by_caller g (Caller n) low = low
by_caller g _ not = absurd not

by_user : (g : Settings) (by : Actor) → IsUser g by → IsMaker g by
by_user g (Caller n) low = low
by_user g (Sched n) low = low
by_user g _ not = absurd not

by_reader : (g : Settings) (by : Actor) (with : Option Actor) → IsReader g by with → IsMaker g by
by_reader g Keeper with is = tt
by_reader g (Caller n) with is = is.0
by_reader g (Sched n) with is = is.0
by_reader g _ with is = absurd is.0

by_prober : (g : Settings) (wheel : ℕ) (by : Actor) → IsProber g wheel by → wheel < g.schedulers → IsMaker g by
by_prober g wheel (Caller n) is low = is
by_prober g wheel (Sched n) is low = subst (λ k. k < g.schedulers) (sym is) low
by_prober g wheel _ not low = absurd not

maker : (g : Settings) (by : Actor) (with : Option Actor) (event : Event) → Keeps g by with event → IsMaker g by
maker g by with (Tick reading act now) keeps = by_keeper g by keeps.0
maker g by with (Shift offset state) keeps = by_keeper g by keeps.0
maker g by with (Look now) keeps = by_user g by keeps.0
maker g by with (Off offset state) keeps = by_reader g by with keeps
maker g by with (Arm timer start) keeps = by_caller g by keeps.0
maker g by with (Probe wheel slot found) keeps = by_prober g wheel by keeps.0 keeps.2.wheel_high
maker g by with (Peek timer left) keeps = by_user g by keeps.0
maker g by with (Cancel timer left) keeps = by_user g by keeps.0
maker g by with (Expire timer) keeps = by_sched g by timer.wheel keeps.0 keeps.2.wheel_high
maker g by with (Orphan timer) keeps = by_caller g by keeps.0
maker g by with (Deliver timer) keeps = by_sched g by timer.wheel keeps.0 keeps.2.wheel_high
maker g by with (Drop timer) keeps = by_sched g by timer.wheel keeps.0 keeps.2.wheel_high
maker g by with (Mark process exits was) keeps = by_user g by keeps.0
maker g by with (Advanced wheel to) keeps = by_sched g by wheel keeps.0 keeps.2
maker g by with (Ask wheel request) keeps = by_caller g by keeps.0
maker g by with (Pick wheel got) keeps = by_sched g by wheel keeps.0 keeps.2
maker g by with (Answer wheel left) keeps = by_sched g by wheel keeps.0 keeps.2
maker g by with (Take process got) keeps = by_caller g by keeps.0
maker g by with (Unwatch process monitor was) keeps = by_caller g by keeps.0
maker g by with (Watch process monitor offset) keeps = by_caller g by keeps.0
maker g by with (Tell process offset) keeps = by_caller g by keeps.0

makers_from : (g : Settings) (s : State) (es : List Entry) → LegalFrom g s es → All (λ (e : Entry). IsMaker g e.by) es
makers_from g s [] legal = All-nil (λ (e : Entry). IsMaker g e.by)
makers_from g s (e ∷ es) legal =
    All-cons (λ (e : Entry). IsMaker g e.by) e es (maker g e.by e.with e.event legal.0.keeps) (makers_from g (next g s e) es legal.1)

-- who makes the entries of a stretch of a legal history
pub makers : (g : Settings) (f stretch : List Entry) → Legal g (f ++ stretch) → All (λ (e : Entry). IsMaker g e.by) stretch
makers g f stretch legal = makers_from g (state g f) stretch (legal_then g (opening g) f stretch legal)
