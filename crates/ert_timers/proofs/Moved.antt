-- A timer is given a new deadline in another slot than its own, or is refused one.

use Rattle.std.proofs.Common.{◌≡◌, ◌≢◌, ⊎_elim, ℕ, zero, suc, ◌<◌, ◌≤◌, Bool, true, false, cond, List, [], ◌∷◌, ◌++◌, length, Option, Some, None, Result, Ok, Err, inl, inr, refl, sym, ap, subst, ◌∙◌, arith, get_or-set_other, append-nil}
use Rattle.std.specs.FinSet as sets
use Rattle.ert_table.proofs.{Looks.look_stepped, Calls.{step_takes_place, takes_place_then}}
use Rattle.ert_defs.proofs.Slots.{ordered}
use Rattle.ert_defs.specs.{Entries.{cancel_entry, look_entry, peek_entry}, Legal.{Legal, names_timer}, Milliseconds.{natural, down, deadline_of, left}, States.{State, state, uses_at}, Timers.{IsNextUse, Uses, deadline_in, timer_at, turned}}
use Rattle.ert_defs.specs.{declared.entry.Actor.TheVariants.Caller, declared.entry.Entry.Entry, declared.settings.Settings.Settings, declared.timer.Start.Start, declared.timer.TimerRef.TimerRef, declared.timer.Status.TheVariants.Armed}
use Rattle.ert_effects.specs.{RestartCalls.{HasRestarted, IsFullFor, RestartEnds, Restarts}, TimerCalls.{AreProbes, AreTaken, Rests}, declared.answers.RestartErr.RestartErr, declared.answers.RestartErr.TheVariants.{BadArg, NotArmed, Full}}
use Rattle.ert_effects.specs.{declared.answers.StartErr.StartErr}
use Rattle.ert_laws.proofs.SlotUses.{timers_few}
use Rattle.ert_table.specs.{Calls.IsMade, Takes.{Appends, TakesPlace}, declared.view.View.View, Settlings.Settles, declared.carry.Settle.TheVariants.Cancel as ToCancel, declared.renew_steps.ArmedWord.ArmedWord, Ranges.word_deadline}
use Rattle.ert_timers.proofs.{Later.later_step, Passing.{fewer_last, same_last}, Renewed.{IsRead, IsStanding, IsToldStill, armed_stands, cancel_calm, cancel_settles, told_still, use_still}, Orphaned.still_caller}
use Rattle.ert_timers.proofs.{Resting.next_is as next_is_of, Standing.{clock_at, clock_rises, clock_stepped, holds_freed, same_since}, Starts.{is_ahead, now_is}, Lookings.put_other}
use Rattle.ert_timers.specs.{Changes.{MayBecomeFree, freed, given_back, has_uses, kept, next_use}, Slots.Slot, Freeing.{IsHeld, IsLast}, Looking.{LooksAhead, now_in}, Parts.{HoldsCaller, Part, PartStands, last_timer, slot_at, unused}}
use Rattle.ert_timers.specs.{Passed.{HasFewerRows, GainsOne, LosesRows}, Restarting.{EndsAfter, HasLooked, HasSlotFor}, Starting.TakesSlot, declared.looking.Ahead.Ahead, declared.part.Use.Use}
use Rattle.ert_laws.specs.Counts.{is_arm}
use Rattle.std.proofs.lemmas.List.{length-set}
use Rattle.ert_wheel.specs.Rows.{key_in}

-- what a start was told by the look just before
pub has_looked : (g : Settings) (v : View) (by : ℕ) (start : Start) (ahead : Option Ahead) (a : Ahead) (u : View) (w : ℕ) → ahead ≡ Some a
    → LooksAhead g v by start ahead u → HoldsCaller g v by w → now_in a ≤ 8796093022207 → a.deadline ≤ 8796093022207
    → HasLooked g (state g u.front) by start a
has_looked g v by start ahead a u w is looks holds now deadline =
    let told = is_ahead g v by start ahead a u looks is in
    let look : (state g u.front).looked (Caller by) ≡ looks.now = look_stepped g v (look_entry (Caller by) looks.now) u looks.step holds.caller in
    record {
      told = ap (deadline_of g start) look ∙ told.told;
      look = ap natural (told.down_to ∙ ap (down g) (sym look));
      clock = now_is g v by start ahead a u is looks;
      now = now;
      deadline = deadline;
    }

-- a slot was found for it
pub has_slot : (g : Settings) (u x : View) (by : ℕ) (p q : Part) (start : Start) (a : Ahead) (k : ℕ) (next : Use) → HasLooked g (state g u.front) by start a
    → PartStands g u.front p → TakesSlot g u by (now_in a) p q (Some k) x → next ≡ next_use (slot_at q.slots k).generation (now_in a) a.deadline
    → q.arms < 9007199254740992 → HasSlotFor g (state g x.front) by q k start next
has_slot g u x by p q start a k next looked stands takes next_is few =
    let s : State = state g x.front in
    let w : ℕ = q.number in
    let now : now_in a ≡ natural (down g (s.looked (Caller by))) = looked.look ∙ ap (λ y. natural (down g y)) (sym takes.look) in
    let high : k < g.slots = subst (λ n. k < n) takes.stands.holds.many takes.finds.low in
    let last : (slot_at q.slots k).generation ≡ s.last w k = takes.stands.holds.lasts k high in
    let same : next ≡ next_use (s.last w k) (now_in a) a.deadline = next_is ∙ ap (λ n. next_use n (now_in a) a.deadline) last in
    let can = next_is_of (uses_at s w k) (now_in a) a.deadline (ordered g x.front takes.stands.legal w k).sound takes.rested looked.now looked.deadline in
    let rises : clock_at g (state g u.front) ≤ clock_at g s =
    subst (λ h. clock_at g (state g u.front) ≤ clock_at g (state g h)) (sym takes.call.grown)
    (clock_rises g u.front takes.call.later stands.checked (subst (Legal g) takes.call.grown takes.call.legal)) in
    record {
      free = takes.finds;
      usable = takes.usable;
      coming = record {
        wanted = a.deadline;
        due = ap (deadline_of g start) takes.look ∙ looked.told;
        can = subst (λ n. IsNextUse (uses_at s w k) n a.deadline next.generation) now
            (subst (λ (y : Use). IsNextUse (uses_at s w k) (now_in a) a.deadline y.generation) (sym same) can.0);
        deadline = subst (λ n. next.deadline ≡ deadline_in (turned (uses_at s w k)).since n a.deadline) now
            (ap (λ (y : Use). y.deadline) same ∙ can.1);
      };
      few = few;
      ready = omega (arith, takes.rested, looked.clock, rises);
    }

-- it is one still after a step of the caller that isn't a look
pub slot_still : (g : Settings) (v : View) (e : Entry) (u : View) (by : ℕ) (p : Part) (k : ℕ) (start : Start) (next : Use) → PartStands g v.front p
    → HoldsCaller g v by p.number → Appends g v e u → is_arm e.event ≡ false → IsToldStill g (state g v.front) (state g u.front) by p.number
    → HasSlotFor g (state g v.front) by p k start next → HasSlotFor g (state g u.front) by p k start next
slot_still g v e u by p k start next stands holds step calm still has = record {
  free = has.free;
  usable = (later_step g v e u p.number step holds.wheel calm).free (last_timer p.number p.slots k) refl has.usable;
  coming = use_still g (state g v.front) (state g u.front) by p.number k start next still has.coming;
  few = has.few;
  ready = same_since (uses_at (state g v.front) p.number k) (uses_at (state g u.front) p.number k) (clock_at g (state g v.front)) (clock_at g (state g u.front))
      (still.uses k) (clock_stepped g v e u stands.checked step) has.ready;
}

-- so it can be held free again
pub freed_again : (g : Settings) (h : List Entry) (by : ℕ) (p q : Part) (k : ℕ) (start : Start) (next : Use) → PartStands g h p → HasSlotFor g (state g h) by p k start next
    → q ≡ freed p k → PartStands g h q
freed_again g h by p q k start next stands has is =
    subst (λ (x : Part). PartStands g h x) (sym is) (record {
      checked = stands.checked;
      legal = stands.legal;
      holds = holds_freed g (state g h) p k stands.holds has.usable has.ready;
      counted = record { arms = stands.counted.arms; expires = stands.counted.expires; orphans = stands.counted.orphans };
    })

-- a timer that is held is the last of its slot
pub held_last : (p : Part) (timer : TimerRef) → IsHeld p timer → IsLast p timer
held_last p timer held = record { low = held.low; named = held.named; used = inr held.row }

-- the slot of a timer that was let go is another one, and this one is free as before
pub slot_apart : (g : Settings) (s : State) (by : ℕ) (p q : Part) (timer : TimerRef) (k : ℕ) (start : Start) (next : Use) → HasSlotFor g s by p k start next → IsHeld p timer
    → q ≡ given_back p timer.slot false → HasSlotFor g s by q k start next
slot_apart g s by p q timer k start next has held is =
    subst (λ (x : Part). HasSlotFor g s by x k start next) (sym is) (record {
      free = record {
        low = has.free.low;
        vacant = get_or-set_other p.keys timer.slot k None None other ∙ has.free.vacant;
        away = kept_away (has_uses (slot_at p.slots timer.slot));
      };
      usable = has.usable;
      coming = has.coming;
      few = has.few;
      ready = has.ready;
    })
  where
    other : k ≢ timer.slot
    other same = held.row (ap (key_in p.keys) (sym same) ∙ has.free.vacant)

    kept_away : (b : Bool) → sets.contains (cond b (sets.insert p.free timer.slot) p.free) k ≡ false
    kept_away true = put_other p.free timer.slot k other ∙ has.free.away
    kept_away false = has.free.away

-- what the wheel holds then
pub gone_moved : (p q : Part) (timer : TimerRef) (k : ℕ) (start : Start) (next : Use) → k ≢ timer.slot → (IsHeld p timer → ⊥) → q ≡ kept p k start next q.stands
    → IsHeld q timer → ⊥
gone_moved p q timer k start next other gone is held =
    let there : IsHeld (kept p k start next q.stands) timer = subst (λ (x : Part). IsHeld x timer) is held in
    gone (record {
      low = subst (λ n. timer.slot < n) (length-set p.slots k _) there.low;
      named = there.named ∙ ap (λ (x : Slot). timer_at p.number timer.slot x.generation) (get_or-set_other p.slots k timer.slot _ unused (λ same. other (sym same)));
      row = λ none. there.row (get_or-set_other p.keys k timer.slot _ None (λ same. other (sym same)) ∙ none);
    })

-- what the exchange recorded that cancels alone
pub cancel_missed : (g : Settings) (u : View) (by : ℕ) (timer : TimerRef) (deadline : ℕ) (hit : Bool) (x : View) → hit ≡ false
    → Settles g u (Caller by) timer deadline ToCancel hit x → Appends g u (cancel_entry (Caller by) timer None) x
cancel_missed g u by timer deadline hit x missed settles = subst (λ b. Settles g u (Caller by) timer deadline ToCancel b x) missed settles

-- the timer was read and cancelled, and the slot that was taken is free for the next one still
pub record IsCancelled (g : Settings) (u m : View) (by : ℕ) (p : Part) (timer : TimerRef) (k : ℕ) (start : Start) (next : Use) (found : ℕ) : Type 0 where
  pub step : Appends g u (cancel_entry (Caller by) timer (Some found)) m
  pub stands : PartStands g m.front p
  pub holds : HoldsCaller g m by p.number
  pub settled : (state g m.front).status timer ≢ Some Armed
  pub slot : HasSlotFor g (state g m.front) by p k start next
  pub held : timer.wheel ≡ p.number → IsHeld p timer

pub slot_read : (g : Settings) (v u : View) (by : ℕ) (p : Part) (timer : TimerRef) (found : Option ℕ) (k : ℕ) (start : Start) (next : Use) → PartStands g v.front p
    → HoldsCaller g v by p.number → Appends g v (peek_entry (Caller by) timer found) u → HasSlotFor g (state g v.front) by p k start next
    → HasSlotFor g (state g u.front) by p k start next
slot_read g v u by p timer found k start next stands holds step has =
    slot_still g v (peek_entry (Caller by) timer found) u by p k start next stands holds step refl
    (told_still g v (peek_entry (Caller by) timer found) u by p.number step holds refl refl (λ x. refl)) has

pub slot_cancelled : (g : Settings) (v u : View) (by : ℕ) (p : Part) (timer : TimerRef) (found : Option ℕ) (k : ℕ) (start : Start) (next : Use) → PartStands g v.front p
    → HoldsCaller g v by p.number → Appends g v (cancel_entry (Caller by) timer found) u → HasSlotFor g (state g v.front) by p k start next
    → HasSlotFor g (state g u.front) by p k start next
slot_cancelled g v u by p timer found k start next stands holds step has =
    slot_still g v (cancel_entry (Caller by) timer found) u by p k start next stands holds step refl
    (told_still g v (cancel_entry (Caller by) timer found) u by p.number step holds refl refl (λ x. refl)) has

pub is_cancelled : (g : Settings) (v u m : View) (by : ℕ) (p : Part) (timer : TimerRef) (k : ℕ) (start : Start) (next : Use) (read : ArmedWord) (hit : Bool)
    → (r : IsRead g v u by p timer read) → PartStands g v.front p → HoldsCaller g v by p.number → HasSlotFor g (state g v.front) by p k start next → hit ≡ true
    → Settles g u (Caller by) timer (word_deadline read.word) ToCancel hit m → IsCancelled g u m by p timer k start next r.found
is_cancelled g v u m by p timer k start next read hit r stands holds has hits settles =
    let d : ℕ = word_deadline read.word in
    let at = subst (λ b. Settles g u (Caller by) timer d ToCancel b m) hits settles in
    let step : Appends g u (cancel_entry (Caller by) timer (Some r.found)) m =
    subst (λ l. Appends g u (cancel_entry (Caller by) timer (Some l)) m) (ap (left g d) r.still.look ∙ sym r.is) at in
    let there = slot_read g v u by p timer (Some r.found) k start next stands holds r.step has in
    record {
      step = step;
      stands = cancel_calm g u by timer (Some r.found) m p r.stands r.holds step;
      holds = still_caller g u m by p.number p.number r.holds step.actors refl;
      settled = cancel_settles g u by timer (Some r.found) m step;
      slot = slot_cancelled g u m by p timer (Some r.found) k start next r.stands r.holds step there;
      held = λ wheel. standing_held p timer (armed_stands g u.front p timer d r.stands wheel r.word.row r.armed);
    }
  where
    standing_held : (p : Part) (timer : TimerRef) → IsStanding p timer → IsHeld p timer
    standing_held p timer standing = record {
      low = standing.last.low;
      named = standing.last.named;
      row = λ none. (let clash : None ≡ Some standing.key = sym none ∙ standing.held in cc);
    }

-- no row has come but that of the timer that was started
pub gains_moved : (p p' q r : Part) (named : TimerRef) → LosesRows p p' → GainsOne {E = StartErr} p' q (Ok named) → LosesRows q r
    → GainsOne {E = RestartErr} p r (Ok named)
gains_moved p p' q r named one gains other j key is =
    let same : last_timer r.number r.slots j ≡ last_timer q.number q.slots j = same_last q r j other in
    elim (gains j key (other.left j key is)) [
      | inl was ↦ inl (one.left j key was.0, same ∙ (was.1 ∙ same_last p p' j one))
      | inr new ↦ inr (ap (λ (t : TimerRef). Ok t) (named_same j new ∙ sym same))
    ]
  where
    named_same : (j : ℕ) → ◌≡◌ {A = Result TimerRef StartErr} (Ok named) (Ok (last_timer q.number q.slots j)) → named ≡ last_timer q.number q.slots j
    named_same j is = cc

-- and none of the old one is left
pub gone_armed : (p p' q : Part) (timer : TimerRef) (k : ℕ) (start : Start) (next : Use) → MayBecomeFree p k → (timer.wheel ≡ p.number → IsHeld p timer)
    → (IsHeld p' timer → ⊥) → p'.number ≡ p.number → q ≡ kept p' k start next q.stands → IsHeld q timer → ⊥
gone_armed p p' q timer k start next free held gone number part there =
    let wheel : timer.wheel ≡ p.number =
    ap (λ (t : TimerRef). t.wheel) there.named ∙ (ap (λ (x : Part). x.number) part ∙ number) in
    let other : k ≢ timer.slot = λ same. (held wheel).row (ap (key_in p.keys) (sym same) ∙ free.vacant) in
    gone_moved p' q timer k start next other gone part there

-- some probes, and then an end
pub ends_after : (g : Settings) (u x z : View) (by w : ℕ) (timer : TimerRef) (start : Start) (now : ℕ) (answer : Result TimerRef RestartErr) (probes : List Entry)
    → AreProbes (Caller by) w probes → TakesPlace g u probes x → IsMade g x (λ s es. RestartEnds true by w timer start answer es) z
    → IsFullFor g by w timer now answer (state g u.front) probes → IsMade g u (EndsAfter g by w timer start now answer) z
ends_after g u x z by w timer start now answer probes are takes made full = record {
  entries = probes ++ made.entries;
  allowed = record { probes = probes; end = made.entries; are_probes = are; ends = made.allowed; full = full; entries = refl };
  call = takes_place_then g u x z probes made.entries takes made.call;
}

pub not_full : (g : Settings) (by w : ℕ) (timer : TimerRef) (now : ℕ) (answer : Result TimerRef RestartErr) (s : State) (probes : List Entry) → answer ≢ Err Full
    → IsFullFor g by w timer now answer s probes
not_full g by w timer now (Ok next) s probes not = tt
not_full g by w timer now (Err BadArg) s probes not = tt
not_full g by w timer now (Err NotArmed) s probes not = tt
not_full g by w timer now (Err Full) s probes not = absurd (not refl)

-- why it is refused
abbrev pub Cause : Settings → ℕ → ℕ → TimerRef → ℕ → State → List Entry → Type 0
Cause g by w timer now s probes = IsFullFor g by w timer now (Err Full) s probes

pub full_for : (g : Settings) (by w : ℕ) (timer : TimerRef) (now : ℕ) (why : RestartErr) (s : State) (probes : List Entry) → Cause g by w timer now s probes
    → IsFullFor g by w timer now (Err why) s probes
full_for g by w timer now BadArg s probes cause = tt
full_for g by w timer now NotArmed s probes cause = tt
full_for g by w timer now Full s probes cause = cause

pub spent : (g : Settings) (h : List Entry) (by now arms : ℕ) (p : Part) (timer : TimerRef) → PartStands g h p → arms ≡ p.arms → 9007199254740992 ≤ arms
    → Cause g by p.number timer now (state g h) []
spent g h by now arms p timer stands same high =
    inr (omega (arith, same, high, stands.holds.arms, timers_few g h p.number stands.legal), refl)

-- no row has come since some were lost
pub gains_after : (p q r : Part) (answer : Result TimerRef RestartErr) → HasFewerRows p q → GainsOne q r answer → GainsOne p r answer
gains_after p q r answer fewer gains j key is =
    elim (gains j key is) [
      | inl was ↦ inl (fewer.left j key was.0, was.1 ∙ fewer_last p q j fewer)
      | inr new ↦ inr new
    ]

-- no step was made
pub none_takes : (g : Settings) (u : View) → Legal g u.front → TakesPlace g u [] u
none_takes g u legal = record { actors = refl; legal = legal; later = []; grown = sym (append-nil u.front); ours = refl }

-- the look before changes nothing of why there is no slot
taken_before : (by w now : ℕ) (s t : State) → ((k : ℕ) → uses_at t w k ≡ uses_at s w k) → (slot n : ℕ) (es : List Entry) → AreTaken by w now t slot n es
    → AreTaken by w now s slot n es
taken_before by w now s t same slot zero es taken = taken
taken_before by w now s t same slot (suc n) es taken = (
  taken.0,
  taken.1,
  taken.2,
  ⊎_elim (λ is. inl is) (λ (rests : Rests t now w slot). inr (subst (λ (u : Uses). now < (turned u).since) (same slot) rests)) taken.3,
  taken_before by w now s t same (suc slot) n taken.1 taken.4,
)

full_before : (g : Settings) (by w : ℕ) (timer : TimerRef) (now : ℕ) (answer : Result TimerRef RestartErr) (s t : State) (probes : List Entry)
    → ((k : ℕ) → uses_at t w k ≡ uses_at s w k) → t.rows w ≡ s.rows w → IsFullFor g by w timer now answer t probes → IsFullFor g by w timer now answer s probes
full_before g by w timer now (Ok next) s t probes uses rows full = tt
full_before g by w timer now (Err BadArg) s t probes uses rows full = tt
full_before g by w timer now (Err NotArmed) s t probes uses rows full = tt
full_before g by w timer now (Err Full) s t probes uses rows (inl taken) =
    let round = taken.1.1 in
    inl (
      taken.0,
      (
        taken.1.0,
        record {
          first = round.first;
          second = round.second;
          onward = taken_before by w now s t uses taken.1.0.from taken.1.0.ahead round.first round.onward;
          around = taken_before by w now s t uses 0 taken.1.0.behind round.second round.around;
          entries = round.entries;
        },
      ),
    )
full_before g by w timer now (Err Full) s t probes uses rows (inr many) = inr (ap length (sym rows) ∙ many.0, many.1)

-- a look, and how it ends
has_restarted : (g : Settings) (by w : ℕ) (timer : TimerRef) (start : Start) (answer : Result TimerRef RestartErr) (s : State) (es : List Entry)
    → HasRestarted g by w timer start answer s es → Restarts g by w timer start answer s es
has_restarted g by w timer start (Ok next) s es has = has
has_restarted g by w timer start (Err NotArmed) s es has = has
has_restarted g by w timer start (Err Full) s es has = has
has_restarted g by w timer start (Err BadArg) s es has = absurd (never (names_timer g timer) has.ends)
  where
    never : (b : Bool) → RestartEnds b by w timer start (Err BadArg) has.end → ⊥
    never true ends = ends
    never false ends = (let clash : ◌≡◌ {A = Result TimerRef RestartErr} (Err BadArg) (Err NotArmed) = ends.0 in cc)

pub restarts : (g : Settings) (v u z : View) (by : ℕ) (p : Part) (timer : TimerRef) (start : Start) (ahead : Option Ahead) (a : Ahead) (answer : Result TimerRef RestartErr)
    → ahead ≡ Some a → (looks : LooksAhead g v by start ahead u) → HoldsCaller g v by p.number → names_timer g timer ≡ true
    → IsMade g u (EndsAfter g by p.number timer start (now_in a) answer) z → IsMade g v (Restarts g by p.number timer start answer) z
restarts g v u z by p timer start ahead a answer is looks holds named made =
    let look : Entry = look_entry (Caller by) looks.now in
    let told = is_ahead g v by start ahead a u looks is in
    let later = later_step g v look u p.number looks.step holds.wheel refl in
    let it = made.allowed in
    record {
      entries = look ∷ made.entries;
      allowed = has_restarted g by p.number timer start answer (state g v.front) (look ∷ made.entries) (record {
        now = looks.now;
        probes = it.probes;
        end = it.end;
        accepted = λ none. (let e : Some a.deadline ≡ None = sym told.told ∙ none in cc);
        are_probes = it.are_probes;
        ends = subst (λ b. RestartEnds b by p.number timer start answer it.end) (sym named) it.ends;
        full = full_before g by p.number timer (natural (down g looks.now)) answer (state g v.front) (state g u.front) it.probes later.uses later.rows
            (subst (λ n. IsFullFor g by p.number timer n answer (state g u.front) it.probes) (ap natural told.down_to) it.full);
        entries = ap (λ l. look ∷ l) it.entries;
      });
      call = takes_place_then g v u z (look ∷ []) made.entries (step_takes_place g v look u looks.step) made.call;
    }

-- an armed timer for which there is no slot
pub refused_armed : (g : Settings) (v u : View) (by w : ℕ) (timer : TimerRef) (start : Start) (left : ℕ) → Appends g v (peek_entry (Caller by) timer (Some left)) u
    → IsMade g v (λ s es. RestartEnds true by w timer start (Err Full) es) u
refused_armed g v u by w timer start left peek = record {
  entries = peek_entry (Caller by) timer (Some left) ∷ [];
  allowed = (left, refl);
  call = step_takes_place g v (peek_entry (Caller by) timer (Some left)) u peek;
}

-- where the reference is out of range
pub restarts_none : (g : Settings) (v u : View) (by w : ℕ) (timer : TimerRef) (start : Start) (ahead : Option Ahead) (a : Ahead) → ahead ≡ Some a
    → (looks : LooksAhead g v by start ahead u) → names_timer g timer ≡ false → IsMade g v (Restarts g by w timer start (Err NotArmed)) u
restarts_none g v u by w timer start ahead a is looks out =
    let look : Entry = look_entry (Caller by) looks.now in
    let told = is_ahead g v by start ahead a u looks is in
    record {
      entries = look ∷ [];
      allowed = record {
        now = looks.now;
        probes = [];
        end = [];
        accepted = λ none. (let e : Some a.deadline ≡ None = sym told.told ∙ none in cc);
        are_probes = tt;
        ends = subst (λ b. RestartEnds b by w timer start (Err NotArmed) []) (sym out) (refl, refl);
        full = tt;
        entries = refl;
      };
      call = step_takes_place g v look u looks.step;
    }
