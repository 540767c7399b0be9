-- A part stands on without entries of its wheel, and each call makes entries of its actors alone.

use Rattle.std.proofs.Common.{◌≡◌, ℕ, zero, suc, ◌≤◌, Bool, true, false, cond, ◌&&◌, List, [], ◌∷◌, ◌++◌, Option, Some, None, Result, Ok, Err, inl, inr, refl, sym, ap, subst, ◌∙◌, arith}
use Rattle.std.proofs.lemmas.List.Sums.{sum_by-append}
use Rattle.ert_defs.specs.{Actors.{has_actor, IsFree}, Legal.{Legal, LegalFrom, names_timer}, Milliseconds.{natural, down}, States.{State, opening, state}, declared.entry.Actor.Actor, declared.entry.Actor.TheVariants.{Wheel, Sched, Caller}}
use Rattle.ert_defs.specs.{declared.entry.Entry.Entry, declared.entry.Event.Event, declared.settings.Settings.Settings, declared.timer.Start.Start, declared.timer.Status.Status, declared.timer.TimerRef.TimerRef}
use Rattle.ert_defs.proofs.Runs.{legal_then, state-append}
use Rattle.ert_effects.proofs.{Advanced.{IsAdvance, advance_is}, Told.round_probes}
use Rattle.ert_effects.specs.{RestartCalls.{HasRestarted, RestartEnds, missed_entries}, RoomCalls.{ShowsRoom, no_room, with_found}, declared.answers.Room.Room, TimerCalls.{AreProbes, Closes}, WheelCalls.{Try, expires_by, expiry_entries}}
use Rattle.ert_effects.specs.{WheelCalls.{orphans_by, orphan_entries}, declared.answers.RestartErr.RestartErr, declared.answers.RestartErr.TheVariants.{BadArg as NoDeadline, NotArmed, Full as WantsSlot}}
use Rattle.ert_effects.specs.{declared.answers.StartErr.TheVariants.{BadArg, Full, NoMemory}}
use Rattle.ert_table.specs.Held.{IsOurs}
use Rattle.ert_table.proofs.Parts.{free_later, of_one, of_both}
use Rattle.ert_timers.specs.{Laws.{AreWithWheel, LawOfStandingParts, LawOfStartEntries, LawOfRestartEntries, LawOfAdvanceEntries, LawOfSweeps, LawOfRooms, LawOfProbes}, Parts.{IsLive, last_timer}}
use Rattle.ert_laws.specs.Counts.{entries_of, is_arm, is_expire, is_orphan}
use Rattle.ert_timers.proofs.{Later.{IsLater, later_free, none_counted, live_free}, Rows.rows_later, Standing.{clock_at, clock_rises, holds_with}}

-- a count of the entries of a wheel is the same without more of them
same_count : (test : Event → Bool) (w : ℕ) (f m : List Entry) → IsFree m (Wheel w) → entries_of test w (f ++ m) ≡ entries_of test w f
same_count test w f m free =
    omega (arith, sum_by-append (λ (e : Entry). cond (has_actor e (Wheel w) && test e.event) 1 0) f m, none_counted test w m free)

pub stand_on : LawOfStandingParts
stand_on g f h p longer same legal stands =
    let w : ℕ = p.number in
    let m : List Entry = longer.later in
    let free : IsFree m (Wheel w) = free_later (Wheel w) f h longer same in
    let run_is : state g h ≡ _ = ap (state g) longer.grown ∙ state-append g f m in
    let later : IsLater w (state g f) (state g h) = subst (IsLater w (state g f)) (sym run_is) (later_free g w (state g f) m free) in
    let from : LegalFrom g (state g f) m = legal_then g (opening g) f m (subst (Legal g) longer.grown legal) in
    let rises : clock_at g (state g f) ≤ clock_at g (state g h) =
    subst (λ x. clock_at g (state g f) ≤ clock_at g (state g x)) (sym longer.grown)
    (clock_rises g f m stands.checked (subst (Legal g) longer.grown legal)) in
    let count : (test : Event → Bool) → entries_of test w f ≡ entries_of test w h =
    λ test. sym (ap (entries_of test w) longer.grown ∙ same_count test w f m free) in
    record {
      checked = stands.checked;
      legal = legal;
      holds =
          holds_with g (state g f) (state g h) p p.keys p.stands p.expires p.orphans stands.holds later rises refl
          (rows_later g f w p.slots p.keys (state g h) stands.legal stands.holds.rows later
          (λ k key is. subst (λ (t : State). IsLive (t.status (last_timer w p.slots k))) (sym run_is)
          (live_free g (last_timer w p.slots k) (state g f) m from free (stands.holds.rows.live k key is))));
      counted = record {
        arms = stands.counted.arms ∙ count is_arm;
        expires = stands.counted.expires ∙ count is_expire;
        orphans = stands.counted.orphans ∙ count is_orphan;
      };
    }

-- entries that are these
same_only : (by : Actor) (w : ℕ) (es fs : List Entry) → es ≡ fs → AreWithWheel by w fs → AreWithWheel by w es
same_only by w es fs same only = subst (AreWithWheel by w) (sym same) only

only-append : (by : Actor) (w : ℕ) (es fs : List Entry) → AreWithWheel by w es → AreWithWheel by w fs → AreWithWheel by w (es ++ fs)
only-append by w [] fs one other = other
only-append by w (e ∷ es) fs one other = (one.0, only-append by w es fs one.1 other)

alone : (by : Actor) (w : ℕ) → IsOurs (by ∷ (Wheel w ∷ [])) by None
alone by w = of_one by (Wheel w ∷ [])

paired : (by : Actor) (w n : ℕ) → n ≡ w → IsOurs (by ∷ (Wheel w ∷ [])) by (Some (Wheel n))
paired by w n is = subst (λ m. IsOurs (by ∷ (Wheel w ∷ [])) by (Some (Wheel m))) (sym is) (of_both by (Wheel w))

probes_only : (by : Actor) (w : ℕ) (es : List Entry) → AreProbes by w es → AreWithWheel by w es
probes_only by w [] are = tt
probes_only by w (e ∷ es) are =
    (subst (λ (x : Entry). IsOurs (by ∷ (Wheel w ∷ [])) x.by x.with) (sym are.2) (paired by w w refl), probes_only by w es are.3)

closing_only : (was : Bool) (by w : ℕ) (timer : TimerRef) (es : List Entry) → timer.wheel ≡ w → Closes was by timer es
    → AreWithWheel (Caller by) w es
closing_only false by w timer es wheel closes = same_only (Caller by) w es _ closes tt
closing_only true by w timer es wheel (inl hit) = same_only (Caller by) w es _ hit (paired (Caller by) w timer.wheel wheel, tt)
closing_only true by w timer es wheel (inr miss) = same_only (Caller by) w es _ miss.entries (paired (Caller by) w timer.wheel wheel, tt)

pub starts_only : LawOfStartEntries
starts_only g by w start (Ok timer) s es starts =
    same_only (Caller by) w es _ starts.entries (
      alone (Caller by) w,
      only-append (Caller by) w starts.probes _ (probes_only (Caller by) w starts.probes starts.are_probes) (
        paired (Caller by) w timer.wheel starts.on_wheel,
        (alone (Caller by) w, closing_only starts.was by w timer starts.closing starts.on_wheel starts.closes),
      ),
    )
starts_only g by w start (Err BadArg) s es starts = same_only (Caller by) w es _ starts.entries (alone (Caller by) w, tt)
starts_only g by w start (Err Full) s es starts =
    same_only (Caller by) w es _ starts.entries (
      alone (Caller by) w,
      elim starts.are_taken [
        | inl found ↦ probes_only (Caller by) w starts.probes (round_probes by w (natural (down g starts.now)) s found.0 starts.probes found.1)
        | inr none ↦ same_only (Caller by) w starts.probes _ none.1 tt
      ],
    )
starts_only g by w start (Err NoMemory) s es (inl none) = same_only (Caller by) w es _ none tt
starts_only g by w start (Err NoMemory) s es (inr probed) =
    same_only (Caller by) w es _ probed.entries (alone (Caller by) w, probes_only (Caller by) w probed.probes probed.are_probes)

missed_only : (by w : ℕ) (timer : TimerRef) (found : Option ℕ) → AreWithWheel (Caller by) w (missed_entries by timer found)
missed_only by w timer None = (alone (Caller by) w, tt)
missed_only by w timer (Some left) = (alone (Caller by) w, (alone (Caller by) w, tt))

ends_only : (names : Bool) (by w : ℕ) (timer : TimerRef) (start : Start) (answer : Result TimerRef RestartErr) (es : List Entry)
    → RestartEnds names by w timer start answer es → AreWithWheel (Caller by) w es
ends_only false by w timer start answer es ends = same_only (Caller by) w es [] ends.1 tt
ends_only true by w timer start (Ok next) es ends =
    same_only (Caller by) w es _ ends.entries (
      alone (Caller by) w,
      (
        alone (Caller by) w,
        (paired (Caller by) w next.wheel ends.on_wheel, (alone (Caller by) w, closing_only ends.was by w next ends.closing ends.on_wheel ends.closes)),
      ),
    )
ends_only true by w timer start (Err NoDeadline) es ends = absurd ends
ends_only true by w timer start (Err NotArmed) es ends = same_only (Caller by) w es _ ends.1 (missed_only by w timer ends.0)
ends_only true by w timer start (Err WantsSlot) es ends = same_only (Caller by) w es _ ends.1 (alone (Caller by) w, tt)

restarted_only : (g : Settings) (by w : ℕ) (timer : TimerRef) (start : Start) (answer : Result TimerRef RestartErr) (s : State) (es : List Entry)
    → HasRestarted g by w timer start answer s es → AreWithWheel (Caller by) w es
restarted_only g by w timer start answer s es has =
    same_only (Caller by) w es _ has.entries (
      alone (Caller by) w,
      only-append (Caller by) w has.probes has.end (probes_only (Caller by) w has.probes has.are_probes)
          (ends_only (names_timer g timer) by w timer start answer has.end has.ends),
    )

pub restarts_only : LawOfRestartEntries
restarts_only g by w timer start (Ok next) s es restarts = restarted_only g by w timer start (Ok next) s es restarts
restarts_only g by w timer start (Err NoDeadline) s es restarts = same_only (Caller by) w es _ restarts.entries (alone (Caller by) w, tt)
restarts_only g by w timer start (Err NotArmed) s es restarts = restarted_only g by w timer start (Err NotArmed) s es restarts
restarts_only g by w timer start (Err WantsSlot) s es restarts = restarted_only g by w timer start (Err WantsSlot) s es restarts

try_only : (w : ℕ) (timer : TimerRef) (missed : Option (Option Status))
    → IsOurs (Sched w ∷ (Wheel w ∷ [])) (expires_by w timer missed).by (expires_by w timer missed).with
try_only w timer None = paired (Sched w) w w refl
try_only w timer (Some found) = paired (Sched w) w w refl

tries_only : (w : ℕ) (tries : List Try) → AreWithWheel (Sched w) w (expiry_entries w tries)
tries_only w [] = tt
tries_only w (t ∷ tries) = (try_only w t.timer t.missed, tries_only w tries)

pub advance_only : (w : ℕ) (answer : ℕ × ℕ) (es : List Entry) → IsAdvance w answer es → AreWithWheel (Sched w) w es
advance_only w answer es advance =
    same_only (Sched w) w es _ advance.entries
    (alone (Sched w) w, only-append (Sched w) w (expiry_entries w advance.tries) _ (tries_only w advance.tries) (paired (Sched w) w w refl, tt))

pub advances_only : LawOfAdvanceEntries
advances_only g w (Ok answer) s es advances = advance_only w answer es (advance_is w answer es advances)
advances_only g w (Err e) s es (inl none) = same_only (Sched w) w es _ none tt
advances_only g w (Err e) s es (inr looked) = same_only (Sched w) w es _ looked.1 (alone (Sched w) w, tt)

orphan_only : (by w : ℕ) (timer : TimerRef) (missed : Option (Option Status))
    → IsOurs (Caller by ∷ (Wheel w ∷ [])) (orphans_by by w timer missed).by (orphans_by by w timer missed).with
orphan_only by w timer None = paired (Caller by) w w refl
orphan_only by w timer (Some found) = paired (Caller by) w w refl

orphans_only : (by w : ℕ) (tries : List Try) → AreWithWheel (Caller by) w (orphan_entries by w tries)
orphans_only by w [] = tt
orphans_only by w (t ∷ tries) = (orphan_only by w t.timer t.missed, orphans_only by w tries)

pub sweeps_only : LawOfSweeps
sweeps_only g by w process s es sweeps = same_only (Caller by) w es _ sweeps.entries (orphans_only by w sweeps.tries)

shown_only : (by w now : ℕ) (s : State) (slot n : ℕ) (before room : Room) (es : List Entry) → ShowsRoom by w now s slot n before room es
    → AreWithWheel (Caller by) w es
shown_only by w now s slot zero before room es are = same_only (Caller by) w es _ are.0 tt
shown_only by w now s slot (suc n) before room es are =
    same_only (Caller by) w es _ are.2
    (paired (Caller by) w w refl, shown_only by w now s (suc slot) n (with_found s now w slot are.0 before) room are.1 are.3)

pub rooms_only : LawOfRooms
rooms_only g by w room s es tells =
    same_only (Caller by) w es _ tells.entries
    (alone (Caller by) w, shown_only by w (natural (down g tells.now)) s 0 g.slots no_room tells.seen tells.probes tells.shows)

pub probed_only : LawOfProbes
probed_only w [] = tt
probed_only w (p ∷ probes) = (paired (Sched w) w w refl, probed_only w probes)
