-- A timer of a world is given a new deadline.

use Rattle.std.proofs.Common.{◌≡◌, ◌≢◌, ◌⊎◌, ℕ, ◌<◌, Bool, true, false, cond, List, [], ◌∷◌, ◌++◌, length, slice_index_or, Option, Some, None, Result, Ok, Err, inl, inr, refl, sym, ap, subst, ◌∙◌, arith}
use Rattle.std.proofs.lemmas.Bool.Decides.{nat_tests}
use Rattle.std.specs.Prelude.{slice_set, nat_lt}
use Rattle.ert_defs.proofs.{ExpiredTimers.same_timer-false, Runs.{legal_then, run-append}}
use Rattle.ert_defs.specs.{Actors.has_actor, Entries.{arm_entry, cancel_entry, look_entry, mark_entry, peek_entry}, Legal.{LegalFrom, names_timer}, States.{State, next, run, state}, Timers.settled_as}
use Rattle.ert_defs.specs.{declared.entry.Actor.TheVariants.{Caller, Wheel}, declared.entry.Entry.Entry, declared.settings.Settings.Settings, declared.timer.Start.Start, declared.timer.Status.TheVariants.{Armed, Cancelled}}
use Rattle.ert_defs.specs.{declared.timer.TimerRef.TimerRef}
use Rattle.ert_effects.specs.{RestartCalls.{HasRestarted, RestartEnds, Restarts, missed_entries}, declared.answers.RestartErr.RestartErr, declared.answers.RestartErr.TheVariants.{BadArg, NotArmed, Full}}
use Rattle.ert_table.specs.{Calls.{AreOnlyOf, IsMade}, Desks.{settings_of, view_of, front_of, Belongs}, declared.desk.Desk.Desk, declared.desk.Pass.Pass}
use Rattle.ert_timers.proofs.LawsHold.{restarts_only}
use Rattle.ert_timers.specs.{Freeing.IsHeld, Parts.{IsLive, Part, PartStands as WheelStands, last_timer}, Passed.GainsOne, Restarting.HasLetGo, Tidy.IsTidy}
use Rattle.ert_wheel.proofs.Looking.{key_low}
use Rattle.ert_wheel.specs.{Rows.key_in, declared.row.Key.Key}
use Rattle.ert_world.proofs.{Alone.went, Armed.{AreCalm, is_cancel}, Calls.{Has, exact, after, added, fit_on, makes, parts_in, seen_at}, Gone.wheel_low, Calm.calm_as, CancelCalls.gone_set, Cancelled.left_peeked, Returned.at_place}
use Rattle.ert_world.proofs.{Returned.{caller_back, wheel_back}, Tidying.{HoldsOn, armed_or, armed_self, cancelled_before, cancelled_was, tidy_on}, Unseated.own_unseated, WheelCalls.{calm_append, closing_calm, probes_calm, wheel_named}}
use Rattle.ert_world.specs.{Restarts.{Forgets, wheel_for}, Stepping.turns_same, Worlds.{Seen, seen, AreFit, AreSound, Goes, By}, declared.world.World.TheInside.Inside}

-- these entries cancel no timer but one
abbrev AreCalmBut : TimerRef → List Entry → Type 0
AreCalmBut timer [] = Unit {0}
AreCalmBut timer (e ∷ es) = ((is_cancel e.event ≡ false) ⊎ ((left : Option ℕ) × (e ≡ cancel_entry (Caller 0) timer left))) × AreCalmBut timer es

calm_but : (timer : TimerRef) (es : List Entry) → AreCalm es → AreCalmBut timer es
calm_but timer [] calm = tt
calm_but timer (e ∷ es) calm = (inl calm.0, calm_but timer es calm.1)

but_append : (timer : TimerRef) (es fs : List Entry) → AreCalmBut timer es → AreCalmBut timer fs → AreCalmBut timer (es ++ fs)
but_append timer [] fs one other = other
but_append timer (e ∷ es) fs one other = (one.0, but_append timer es fs one.1 other)

-- another timer that is cancelled after them was so before
cancelled_but : (g : Settings) (s : State) (es : List Entry) (timer r : TimerRef) → r ≢ timer → AreCalmBut timer es → (run g s es).status r ≡ Some Cancelled
    → s.status r ≡ Some Cancelled
cancelled_but g s [] timer r other calm is = is
cancelled_but g s (e ∷ es) timer r other calm is =
    let then : (next g s e).status r ≡ Some Cancelled = cancelled_but g (next g s e) es timer r other calm.1 is in
    elim calm.0 [
      | inl none ↦ cancelled_before r (has_actor e (Wheel r.wheel)) (s.status r) e.event none then
      | inr cancel ↦
          sym (ap (λ b. cond b (settled_as Cancelled (s.status r)) (s.status r)) (same_timer-false timer r (λ same. other (sym same))))
          ∙ subst (λ x. (next g s x).status r ≡ Some Cancelled) cancel.1 then
    ]

-- so a tidy part stays so, which holds no row of it and no cancelled timer that is new
tidy_but : (g : Settings) (s t : State) (es : List Entry) (timer : TimerRef) (p q : Part) → t ≡ run g s es → AreCalmBut timer es
    → ((k : ℕ) (key : Key) → key_in q.keys k ≡ Some key → last_timer q.number q.slots k ≢ timer)
    → ((k : ℕ) (key : Key) → key_in q.keys k ≡ Some key → IsLive (t.status (last_timer q.number q.slots k))) → HoldsOn t p q → IsTidy s p → IsTidy t q
tidy_but g s t es timer p q is calm apart live holds tidy k key has =
    let r : TimerRef = last_timer q.number q.slots k in
    armed_or (t.status r) (live k key has) (λ cancelled.
    elim (holds k key has) [
      | inl was ↦
          let then : s.status r ≡ Some Cancelled = cancelled_but g s es timer r (apart k key has) calm (ap (λ (x : State). x.status r) (sym is) ∙ cancelled) in
          let clash : Some Cancelled ≡ Some Armed = sym then ∙ (ap s.status was.1 ∙ tidy k key was.0) in cc
      | inr not ↦ not cancelled
    ])

-- what a restart records cancels no timer but the old one
ends_but : (names : Bool) (w : ℕ) (timer : TimerRef) (start : Start) (answer : Result TimerRef RestartErr) (es : List Entry)
    → RestartEnds names 0 w timer start answer es → AreCalmBut timer es
ends_but false w timer start answer es ends = subst (AreCalmBut timer) (sym ends.1) tt
ends_but true w timer start (Ok next) es ends =
    subst (AreCalmBut timer) (sym ends.entries)
    (inl refl, (inr (Some ends.left, refl), (inl refl, (inl refl, calm_but timer ends.closing (closing_calm ends.was 0 next ends.closing ends.closes)))))
ends_but true w timer start (Err BadArg) es ends = absurd ends
ends_but true w timer start (Err NotArmed) es ends = subst (AreCalmBut timer) (sym ends.1) (missed_but ends.0)
  where
    missed_but : (found : Option ℕ) → AreCalmBut timer (missed_entries 0 timer found)
    missed_but None = (inl refl, tt)
    missed_but (Some left) = (inl refl, (inr (None, refl), tt))
ends_but true w timer start (Err Full) es ends = subst (AreCalmBut timer) (sym ends.1) (inl refl, tt)

restarted_but : (g : Settings) (w : ℕ) (timer : TimerRef) (start : Start) (answer : Result TimerRef RestartErr) (s : State) (es : List Entry)
    → HasRestarted g 0 w timer start answer s es → AreCalmBut timer es
restarted_but g w timer start answer s es has =
    subst (AreCalmBut timer) (sym has.entries) (
      inl refl,
      but_append timer has.probes has.end (calm_but timer has.probes (probes_calm (Caller 0) w has.probes has.are_probes))
          (ends_but (names_timer g timer) w timer start answer has.end has.ends),
    )

-- where none was started nothing was cancelled, since a timer that was armed when it was read is so still for one that is alone
missed_never : (g : Settings) (s : State) (timer : TimerRef) (left : ℕ)
    → LegalFrom g s (peek_entry (Caller 0) timer (Some left) ∷ (cancel_entry (Caller 0) timer None ∷ [])) → ⊥
missed_never g s timer left legal =
    let clash : Some left ≡ None = legal.0.found ∙ (sym (left_peeked g s (Caller 0) timer (Some left)) ∙ sym legal.1.0.found) in cc

ends_calm : (g : Settings) (s : State) (names : Bool) (w : ℕ) (timer : TimerRef) (start : Start) (why : RestartErr) (es : List Entry)
    → RestartEnds names 0 w timer start (Err why) es → LegalFrom g s es → AreCalm es
ends_calm g s false w timer start why es ends legal = calm_as es [] ends.1 tt
ends_calm g s true w timer start BadArg es ends legal = absurd ends
ends_calm g s true w timer start NotArmed es ends legal = calm_as es _ ends.1 (missed_calm ends.0 (subst (LegalFrom g s) ends.1 legal))
  where
    missed_calm : (found : Option ℕ) → LegalFrom g s (missed_entries 0 timer found) → AreCalm (missed_entries 0 timer found)
    missed_calm None legal = (refl, tt)
    missed_calm (Some left) legal = absurd (missed_never g s timer left legal)
ends_calm g s true w timer start Full es ends legal = calm_as es _ ends.1 (refl, tt)

restarted_calm : (g : Settings) (w : ℕ) (timer : TimerRef) (start : Start) (why : RestartErr) (s : State) (es : List Entry)
    → HasRestarted g 0 w timer start (Err why) s es → LegalFrom g s es → AreCalm es
restarted_calm g w timer start why s es has legal =
    let look : Entry = look_entry (Caller 0) has.now in
    let all : LegalFrom g s (look ∷ (has.probes ++ has.end)) = subst (LegalFrom g s) has.entries legal in
    calm_as es _ has.entries (
      refl,
      calm_append has.probes has.end (probes_calm (Caller 0) w has.probes has.are_probes)
          (ends_calm g (run g (next g s look) has.probes) (names_timer g timer) w timer start why has.end has.ends
          (legal_then g (next g s look) has.probes has.end all.1)),
    )

-- the timer that was started isn't cancelled then
fresh_not : (g : Settings) (w : ℕ) (timer : TimerRef) (start : Start) (fresh : TimerRef) (s : State) (es : List Entry)
    → HasRestarted g 0 w timer start (Ok fresh) s es → (run g s es).status fresh ≢ Some Cancelled
fresh_not g w timer start fresh s es has = at (names_timer g timer) has.ends
  where
    look : Entry
    look = look_entry (Caller 0) has.now

    at : (names : Bool) → RestartEnds names 0 w timer start (Ok fresh) has.end → (run g s es).status fresh ≢ Some Cancelled
    at false ends = λ is. (let clash : ◌≡◌ {A = Result TimerRef RestartErr} (Ok fresh) (Err NotArmed) = ends.0 in cc)
    at true ends = λ is.
        let first : List Entry = look ∷ has.probes in
        let middle : List Entry = peek_entry (Caller 0) timer (Some ends.left) ∷ (cancel_entry (Caller 0) timer (Some ends.left) ∷ []) in
        let arm : Entry = arm_entry 0 fresh start in
        let rest : List Entry = mark_entry (Caller 0) start.dest false ends.was ∷ ends.closing in
        let s' : State = run g (run g s first) middle in
        let whole : run g s es ≡ run g s' (arm ∷ rest) =
        ap (run g s) (has.entries ∙ ap (λ l. first ++ l) ends.entries) ∙ run-append g s first (middle ++ arm ∷ rest) in
        let then : (next g s' arm).status fresh ≡ Some Cancelled =
        cancelled_was g (next g s' arm) rest fresh (refl, closing_calm ends.was 0 fresh ends.closing ends.closes) (ap (λ (x : State). x.status fresh) (sym whole) ∙ is) in
        let clash : Some Armed ≡ Some Cancelled = sym (armed_self g s' 0 fresh start) ∙ then in cc

below : (m n : ℕ) → m < n → nat_lt m n ≡ true
below m n lt = grind (arith, nat_tests)

-- the wheel of a timer in range is its own
wheel_is : (g : Settings) (timer : TimerRef) → timer.wheel < g.schedulers → wheel_for g timer ≡ timer.wheel
wheel_is g timer low = ap (λ b. cond b timer.wheel 0) (below timer.wheel g.schedulers low)

-- a timer of a world was given a new deadline, or wasn't, by a wheel whose place is known
pub record IsRestarted (before : Seen) (b : Inside) (d : Desk) (i : ℕ) (q : Pass) (timer : TimerRef) (start : Start) (answer : Result TimerRef RestartErr) (new : Part) : Type 0 where
  pub fit : AreSound d q b.next (record (parts_in b) { wheels = slice_set b.wheels.items i new })
  pub goes : Goes before (By before (λ g. Restarts g 0 (wheel_for g timer) timer start answer)) (seen d q b.next b.keeper (slice_set b.wheels.items i new) b.list)
  pub gone : Forgets timer answer (seen d q b.next b.keeper (slice_set b.wheels.items i new) b.list)

module _ (before : Seen) (b : Inside) (d : Desk) (q : Pass) (timer : TimerRef) (start : Start) (answer : Result TimerRef RestartErr) (old new : Part)
    (has : Has before b d) (belongs : Belongs d q) (low : wheel_for (settings_of d) timer < (settings_of d).schedulers)
    (lent : old ≡ slice_index_or b.wheels.items (wheel_for (settings_of d) timer) old) (named : new.number ≡ old.number)
    (stands : WheelStands (settings_of d) (front_of q) new)
    (made : IsMade (settings_of d) (view_of b.pass) (Restarts (settings_of d) 0 old.number timer start answer) (view_of q))
    (gains : GainsOne old new answer) (gone : HasLetGo timer answer new) where
  abbrev g : Settings
  g = settings_of d

  abbrev i : ℕ
  i = wheel_for g timer

  abbrev s : State
  s = state g (front_of b.pass)

  abbrev t : State
  t = state g (front_of q)

  abbrev ws : List Part
  ws = b.wheels.items

  one : old.number ≡ i
  one = wheel_named g (front_of b.pass) [] (parts_in b) i old has.fit.stand low lent

  it : IsMade g (view_of b.pass) (Restarts g 0 i timer start answer) (view_of q)
  it = subst (λ n. IsMade g (view_of b.pass) (Restarts g 0 n timer start answer) (view_of q)) one made

  only : AreOnlyOf (Caller 0 ∷ (Wheel i ∷ [])) it.entries
  only = restarts_only g 0 i timer start answer s it.entries it.allowed

  wide : i < length ws
  wide = rw has.fit.stand.wheels.counted low

  fit : AreFit d q b.next (record (parts_in b) { wheels = slice_set ws i new })
  fit = fit_on d b.pass q b.next (parts_in b) (record (parts_in b) { wheels = slice_set ws i new }) it.entries (Caller 0 ∷ (Wheel i ∷ [])) has.fit belongs it.call only
      (λ stand. wheel_back g (front_of q) [] (parts_in b) i new low (named ∙ one) stands (caller_back g (front_of q) (Wheel i ∷ []) (parts_in b) 0 stand))

  -- the timer of a row that is held isn't the old one, where another was started
  fresh_rows : (next : TimerRef) → answer ≡ Ok next → (k : ℕ) (key : Key) → key_in new.keys k ≡ Some key → last_timer new.number new.slots k ≢ timer
  fresh_rows next is k key held same =
      let slot : k ≡ timer.slot = ap (λ (r : TimerRef). r.slot) same in
      (subst (λ a. HasLetGo timer a new) is gone) (record {
        low = subst (λ n. n < length new.slots) slot (omega (arith, key_low new.keys k key held, stands.holds.wide, stands.holds.many));
        named = sym same ∙ ap (last_timer new.number new.slots) slot;
        row = λ none. (let clash : None ≡ Some key = sym (ap (key_in new.keys) slot ∙ none) ∙ held in cc);
      })

  module _ (is : t ≡ run g s it.entries) (legal : LegalFrom g s it.entries) where
    tidy_ok : (next : TimerRef) → answer ≡ Ok next → HasRestarted g 0 i timer start (Ok next) s it.entries → IsTidy s old → IsTidy t new
    tidy_ok next same restarted tidy =
        tidy_but g s t it.entries timer old new is (restarted_but g i timer start (Ok next) s it.entries restarted) (fresh_rows next same) stands.holds.rows.live
        (λ k key held. elim (gains k key held) [
          | inl was ↦ inl was
          | inr fresh ↦ inr (
              let name : next ≡ last_timer new.number new.slots k = (let e : ◌≡◌ {A = Result TimerRef RestartErr} (Ok next) (Ok (last_timer new.number new.slots k)) = sym same ∙ fresh in cc) in
              subst (λ r. t.status r ≢ Some Cancelled) name
              (λ cancelled. fresh_not g i timer start next s it.entries restarted (ap (λ (x : State). x.status next) (sym is) ∙ cancelled))
              )
        ]) tidy

    tidy_err : (why : RestartErr) → answer ≡ Err why → AreCalm it.entries → IsTidy s old → IsTidy t new
    tidy_err why same calm tidy =
        tidy_on g s t it.entries old new is calm stands.holds.rows.live
        (λ k key held. elim (gains k key held) [
          | inl was ↦ inl was
          | inr fresh ↦ absurd (let clash : ◌≡◌ {A = Result TimerRef RestartErr} (Err why) (Ok (last_timer new.number new.slots k)) = sym same ∙ fresh in cc)
        ]) tidy

    tidy_new : (a : Result TimerRef RestartErr) → answer ≡ a → Restarts g 0 i timer start a s it.entries → IsTidy s old → IsTidy t new
    tidy_new (Ok next) same restarted = tidy_ok next same restarted
    tidy_new (Err BadArg) same refused = tidy_err BadArg same (calm_as it.entries _ refused.entries (refl, tt))
    tidy_new (Err NotArmed) same restarted = tidy_err NotArmed same (restarted_calm g i timer start NotArmed s it.entries restarted legal)
    tidy_new (Err Full) same restarted = tidy_err Full same (restarted_calm g i timer start Full s it.entries restarted legal)

    but_all : (a : Result TimerRef RestartErr) → Restarts g 0 i timer start a s it.entries → AreCalmBut timer it.entries
    but_all (Ok next) restarted = restarted_but g i timer start (Ok next) s it.entries restarted
    but_all (Err BadArg) refused = subst (AreCalmBut timer) (sym refused.entries) (inl refl, tt)
    but_all (Err NotArmed) restarted = restarted_but g i timer start (Err NotArmed) s it.entries restarted
    but_all (Err Full) restarted = restarted_but g i timer start (Err Full) s it.entries restarted

    -- another wheel
    tidy_other : (j : ℕ) (x : Part) → j < g.schedulers → j ≢ i → WheelStands g (front_of q) (slice_index_or ws j x) → IsTidy s (slice_index_or ws j x)
        → IsTidy t (slice_index_or ws j x)
    tidy_other j x below other stood tidy =
        let p : Part = slice_index_or ws j x in
        tidy_but g s t it.entries timer p p is (but_all answer it.allowed)
        (λ k key held same.
        let wheel : timer.wheel ≡ j = sym (ap (λ (r : TimerRef). r.wheel) same) ∙ has.fit.stand.wheels.named j x below in
        other (sym (wheel_is g timer (subst (λ n. n < g.schedulers) (sym wheel) below) ∙ wheel)))
        stood.holds.rows.live (λ k key held. inl (held, refl)) tidy

  tidy_all : b.next ≡ 1 → (j : ℕ) (x : Part) → j < g.schedulers → IsTidy t (slice_index_or (slice_set ws i new) j x)
  tidy_all alone j x below =
      let front = exact b d q it.entries has it.call alone in
      let is = after d b.pass q it.entries front in
      let legal = added d b.pass q it.entries front it.call.legal in
      at_place (λ (y : Part). WheelStands g (front_of q) y → IsTidy t y) ws i j new x wide
      (λ same stood. tidy_new is legal answer refl it.allowed (subst (IsTidy s) (sym lent) (has.tidy alone i old low)))
      (λ other stood. tidy_other is legal j x below other stood (has.tidy alone j x below))
      (fit.stand.wheels.stand j x below refl)

  let_go : (a : Result TimerRef RestartErr) → Restarts g 0 i timer start a s it.entries → HasLetGo timer a new
      → Forgets timer a (seen d q b.next b.keeper (slice_set ws i new) b.list)
  let_go (Err e) restarted gone = tt
  let_go (Ok fresh) restarted gone = at (names_timer g timer) refl restarted.ends
    where
      at : (names : Bool) → names_timer g timer ≡ names → RestartEnds names 0 i timer start (Ok fresh) restarted.end
          → Forgets timer (Ok fresh) (seen d q b.next b.keeper (slice_set ws i new) b.list)
      at false is ends = absurd (let clash : ◌≡◌ {A = Result TimerRef RestartErr} (Ok fresh) (Err NotArmed) = ends.0 in cc)
      at true is ends = λ x held.
          gone_set ws i new timer wide gone x (subst (λ n. IsHeld (slice_index_or (slice_set ws i new) n x) timer) (sym (wheel_is g timer (wheel_low g timer is))) held)

  restarted : IsRestarted before b d i q timer start answer new
  restarted =
      let end : Seen = seen d q b.next b.keeper (slice_set ws i new) b.list in
      let own = own_unseated g (view_of b.pass) it.entries (view_of q) b.next (Caller 0 ∷ (Wheel i ∷ [])) has.fit.holds it.call only (refl, (refl, tt)) in
      record {
        fit = record { fit = fit; tidy = tidy_all };
        goes = subst (λ w. Goes w (By w (λ g. Restarts g 0 (wheel_for g timer) timer start answer)) end) has.is
            (went (seen_at d b) end (By (seen_at d b) (λ g. Restarts g 0 (wheel_for g timer) timer start answer)) (record {
              piece = it.call.later;
              grown = it.call.grown;
              made = makes b d q it.entries (λ g. Restarts g 0 (wheel_for g timer) timer start answer) it.allowed it.call.later it.call.grown own;
            }) it.call.legal refl refl refl refl (turns_same b.list));
        gone = let_go answer it.allowed gone;
      }

-- the same, by a desk that was borrowed twice
pub restarted_at : (before : Seen) (b : Inside) (f d e : Desk) (h : Settings) (i : ℕ) (q : Pass) (timer : TimerRef) (start : Start)
    (answer : Result TimerRef RestartErr) (old new : Part)
    → h ≡ settings_of f → f ≡ e → d ≡ e → Has before b d → Belongs d q → i ≡ wheel_for h timer → i < h.schedulers
    → old ≡ slice_index_or b.wheels.items i old → new.number ≡ old.number → WheelStands (settings_of d) (front_of q) new
    → IsMade (settings_of d) (view_of b.pass) (Restarts (settings_of d) 0 old.number timer start answer) (view_of q)
    → GainsOne old new answer → HasLetGo timer answer new → IsRestarted before b e i q timer start answer new
restarted_at before b f d e h i q timer start answer old new told first second has belongs place low lent named stands made gains gone =
    let same : h ≡ settings_of d = told ∙ ap settings_of (first ∙ sym second) in
    let at : i ≡ wheel_for (settings_of d) timer = place ∙ ap (λ g. wheel_for g timer) same in
    subst (λ x. IsRestarted before b x i q timer start answer new) second
    (subst (λ n. IsRestarted before b d n q timer start answer new) (sym at)
    (restarted before b d q timer start answer old new has belongs
    (subst (λ n. n < (settings_of d).schedulers) at (subst (λ (g : Settings). i < g.schedulers) same low))
    (subst (λ n. old ≡ slice_index_or b.wheels.items n old) at lent) named stands made gains gone))
