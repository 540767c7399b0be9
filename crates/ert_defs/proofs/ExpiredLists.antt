-- The expired timers of each scheduler after a legal history: each is expired and stands once.

use Rattle.std.proofs.Common.{◌≡◌, ◌≢◌, ℕ, Bool, true, false, cond, ◌||◌, nat_eq, List, [], ◌∷◌, All, get_or, Option, Some, None, refl, sym, ap, ◌∙◌, inl, inr, subst, arith, eqb-true, eq-eqb}
use Rattle.std.proofs.{lemmas.Bool.cases_eq, lemmas.List.Elements.{All-nil, All-push, All-head}, lemmas.List.Quantifiers.all_pairs_push, Math.Bool.or-false}
use Rattle.ert_defs.specs.{Actors.{has_actor, is_with, same_actor}, Laws.{IsExpired, AreExpired, LawOfExpired, LawOfDelivery, LawOfDrop}, Legal.{Can, IsFirst, Known, Legal}, Mails.{others_of, first_of, sched_after, with_row}, States.State}
use Rattle.ert_defs.specs.{States.{opening, next, state}, Timers.{Row, row_of, same_timer, is_taken}, declared.entry.Actor.Actor, declared.entry.Actor.TheVariants.{Wheel, Sched}, declared.entry.Entry.Entry, declared.entry.Event.Event}
use Rattle.ert_defs.specs.{declared.entry.Event.TheVariants.{Expire, Deliver, Drop}, declared.settings.Settings.Settings, declared.timer.Status.TheVariants.{Armed, Expired, Delivered, Dropped}, declared.timer.TimerRef.TimerRef}
use Rattle.ert_defs.proofs.{ExpiredTimers.{cond_same, same_timer_self, same_timer-false, row_named, row_kept, hands, all_stay, expired_others}, Lists.pairs_head, Rows.Differ, Runs.{carry, kept_from, legal_one_more, state-append}}
use Rattle.ert_defs.proofs.{Slots.{IsOrdered, ordered, ordered_next, ordered_opening}}

-- an event that is by a scheduler has no other
pub sched_of : (e : Entry) (v w : ℕ) → e.by ≡ Sched v → is_with e.with (Sched w) ≡ false → has_actor e (Sched w) ≡ true → v ≡ w
sched_of e v w by with has =
    let P : Actor → Type 0 = λ a. (same_actor a (Sched w) || is_with e.with (Sched w)) ≡ true in
    let test : (nat_eq v w || false) ≡ true = rw with at (subst P by has) in
    eqb-true v w (rw or-false at test)

pub has_sched : (e : Entry) (w : ℕ) → e.by ≡ Sched w → has_actor e (Sched w) ≡ true
has_sched e w by =
    let P : Actor → Type 0 = λ a. (same_actor a (Sched w) || is_with e.with (Sched w)) ≡ true in
    carry P by (rw (eq-eqb w w refl) refl)

-- a scheduler hands over its first: the others wait on
first_handed : (g : Settings) (s : State) (e : Entry) (w : ℕ) (expired : List Row) (row : Row) → Can g s e → first_of expired ≡ Some row
    → ((r : TimerRef) → hands e.event r ≡ same_timer row.timer r) → AreExpired s w expired → AreExpired (next g s e) w (others_of expired)
first_handed g s e w [] row can first handed h = absurd cc
first_handed g s e w (r ∷ rows) row can first handed h =
    let same : r ≡ row = cc in
    let apart : All (Differ r) rows = pairs_head Differ r rows h.once in
    let others : All (λ x. hands e.event x.timer ≡ false) rows =
    λ k d lt.
    let x : Row = get_or rows k d in
    handed x.timer ∙ same_timer-false row.timer x.timer (λ is. apart k d lt (ap (λ (y : Row). y.timer) same ∙ is)) in
    all_stay g s e w rows can others (expired_others s w (r ∷ rows) h)

-- another scheduler's wait on
other_handed : (g : Settings) (s : State) (e : Entry) (w : ℕ) (rows : List Row) (timer : TimerRef) → Can g s e → timer.wheel ≢ w
    → ((r : TimerRef) → hands e.event r ≡ same_timer timer r) → AreExpired s w rows → AreExpired (next g s e) w rows
other_handed g s e w rows timer can not handed h =
    all_stay g s e w rows can
    (λ k d lt.
    let x : Row = get_or rows k d in
    handed x.timer ∙ same_timer-false timer x.timer (λ is. not (ap (λ (t : TimerRef). t.wheel) is ∙ (h.each k d lt).wheel)))
    h

-- a timer that takes its slot is the last of it
pub taken_last : (s : State) (t : TimerRef) → IsOrdered s → is_taken (s.status t) ≡ true → t.generation ≡ s.last t.wheel t.slot
taken_last s t ordered taken =
    elim (cases_eq t.generation (s.last t.wheel t.slot)) [
      | inl same ↦ same
      | inr other ↦ let free : is_taken (s.status t) ≡ false = (ordered t.wheel t.slot).free t.generation other in absurd cc
    ]

-- the entry by an actor with another
abbrev pub made : Actor → Option Actor → Event → Entry
made by with event = record { by = by; with = with; event = event }

expired_now : (g : Settings) (s : State) (by : Actor) (with : Option Actor) (timer : TimerRef) (row : Row) → IsOrdered s
    → s.status timer ≡ Some Armed → row_of (s.rows timer.wheel) timer ≡ Some row
    → IsExpired (next g s (made by with (Expire timer))) timer.wheel row
expired_now g s by with timer row ordered armed stands =
    let e : Entry = made by with (Expire timer) in
    let named : row.timer ≡ timer = row_named (s.rows timer.wheel) row timer stands in
    let has_wheel : Bool = has_actor e (Wheel timer.wheel) in
    let kept : row_of ((next g s e).rows timer.wheel) timer ≡ Some row =
    row_kept g (s.looked by) timer.wheel (s.rows timer.wheel) row timer has_wheel (Expire timer) stands in
    let last : timer.generation ≡ s.last timer.wheel timer.slot = taken_last s timer ordered (rw armed refl) in
    record {
      expired = carry (λ t. (next g s e).status t ≡ Some Expired) named (rw (same_timer_self timer, armed) refl);
      wheel = ap (λ (t : TimerRef). t.wheel) named;
      stands = carry (λ t. row_of ((next g s e).rows timer.wheel) t ≡ Some row) named kept;
      last = carry (λ (t : TimerRef). t.generation ≡ (next g s e).last timer.wheel t.slot) named
          (last ∙ sym (cond_same has_wheel (s.last timer.wheel timer.slot)));
    }

-- a timer that expires waits behind the others
expire_waits : (g : Settings) (s : State) (by : Actor) (with : Option Actor) (timer : TimerRef) (expired : List Row) (o : Option Row) → IsOrdered s
    → Can g s (made by with (Expire timer)) → row_of (s.rows timer.wheel) timer ≡ o → AreExpired s timer.wheel expired
    → AreExpired (next g s (made by with (Expire timer))) timer.wheel (with_row expired o)
expire_waits g s by with timer expired None ordered can is h =
    all_stay g s (made by with (Expire timer)) timer.wheel expired can (λ k d lt. refl) h
expire_waits g s by with timer expired (Some row) ordered can is h =
    let e : Entry = made by with (Expire timer) in
    let stay = all_stay g s e timer.wheel expired can (λ k d lt. refl) h in
    let named : row.timer ≡ timer = row_named (s.rows timer.wheel) row timer is in
    let differ : (x : Row) → IsExpired s timer.wheel x → Differ x row = λ x was same.
    let both : s.status x.timer ≡ Some Armed = carry (λ t. s.status t ≡ Some Armed) (same ∙ named) can.found in
    let no : Some Armed ≡ Some Expired = sym both ∙ was.expired in
    cc in
    record {
      each = All-push (IsExpired (next g s e) timer.wheel) expired row stay.each (expired_now g s by with timer row ordered can.found is);
      once = all_pairs_push Differ expired row h.once (λ k d lt. differ (get_or expired k d) (h.each k d lt));
    }

expired_cond : (s : State) (w : ℕ) (b : Bool) (rows : List Row) → AreExpired s w rows → AreExpired s w (cond b (others_of rows) rows)
expired_cond s w true rows h = expired_others s w rows h
expired_cond s w false rows h = h

-- the list of a scheduler after the first of it, or that of another, is handed over
handed_next : (g : Settings) (s : State) (e : Entry) (w : ℕ) (timer : TimerRef) → Can g s e → e.by ≡ Sched timer.wheel
    → IsFirst (s.scheds timer.wheel).expired timer → ((r : TimerRef) → hands e.event r ≡ same_timer timer r)
    → AreExpired s w (s.scheds w).expired → (b : Bool) → has_actor e (Sched w) ≡ b
    → AreExpired (next g s e) w (cond b (others_of (s.scheds w).expired) (s.scheds w).expired)
handed_next g s e w timer can by first handed h b is =
    elim (cases_eq timer.wheel w) [
      | inl same ↦
          let has : has_actor e (Sched w) ≡ true = has_sched e w (by ∙ ap Sched same) in
          let here : b ≡ true = sym is ∙ has in
          let first_here : first_of (s.scheds w).expired ≡ Some first.row = subst (λ v. first_of (s.scheds v).expired ≡ Some first.row) same first.first in
          rw here (first_handed g s e w (s.scheds w).expired first.row can first_here
          (λ r. handed r ∙ ap (λ t. same_timer t r) (sym first.named)) h)
      | inr other ↦ expired_cond (next g s e) w b (s.scheds w).expired (other_handed g s e w (s.scheds w).expired timer can other handed h)
    ]

expired_with : (g : Settings) (s : State) (by : Actor) (with : Option Actor) (event : Event) (w : ℕ) → IsOrdered s → Can g s (made by with event)
    → AreExpired s w (s.scheds w).expired → (b : Bool) → has_actor (made by with event) (Sched w) ≡ b
    → AreExpired (next g s (made by with event)) w (cond b (sched_after s.rows (s.scheds w) event) (s.scheds w)).expired
expired_with g s by with (Deliver timer) w ordered can h true is =
    handed_next g s (made by with (Deliver timer)) w timer can can.keeps.0 can.known.0 (λ r. refl) h true is
expired_with g s by with (Deliver timer) w ordered can h false is =
    handed_next g s (made by with (Deliver timer)) w timer can can.keeps.0 can.known.0 (λ r. refl) h false is
expired_with g s by with (Drop timer) w ordered can h true is =
    handed_next g s (made by with (Drop timer)) w timer can can.keeps.0 can.known.0 (λ r. refl) h true is
expired_with g s by with (Drop timer) w ordered can h false is =
    handed_next g s (made by with (Drop timer)) w timer can can.keeps.0 can.known.0 (λ r. refl) h false is
expired_with g s by with (Expire timer) w ordered can h true is =
    let own : timer.wheel ≡ w = sched_of (made by with (Expire timer)) timer.wheel w can.keeps.0 (rw can.keeps.1 refl) is in
    let P : ℕ → Type 0 = λ v. AreExpired s v (s.scheds v).expired
    → AreExpired (next g s (made by with (Expire timer))) v (with_row (s.scheds v).expired (row_of (s.rows timer.wheel) timer)) in
    subst P own (expire_waits g s by with timer (s.scheds timer.wheel).expired (row_of (s.rows timer.wheel) timer) ordered can refl) h
expired_with g s by with (Expire timer) w ordered can h false is =
    all_stay g s (made by with (Expire timer)) w (s.scheds w).expired can (λ k d lt. refl) h
expired_with g s by with event w ordered can h true is = all_stay g s (made by with event) w (s.scheds w).expired can (λ k d lt. refl) h
expired_with g s by with event w ordered can h false is = all_stay g s (made by with event) w (s.scheds w).expired can (λ k d lt. refl) h

-- slots are used in order, and the expired timers of each scheduler wait there
pub record IsKept (s : State) : Type 0 where
  pub ordered : IsOrdered s
  pub expired : (w : ℕ) → AreExpired s w (s.scheds w).expired

pub expired_next : (g : Settings) (s : State) (e : Entry) → IsKept s → Can g s e → IsKept (next g s e)
expired_next g s e kept can = record {
  ordered = ordered_next g s e kept.ordered can;
  expired = λ w. expired_with g s e.by e.with e.event w kept.ordered can (kept.expired w) (has_actor e (Sched w)) refl;
}

pub expired_opening : (g : Settings) → IsKept (opening g)
expired_opening g = record {
  ordered = ordered_opening g;
  expired = λ w. record { each = All-nil (IsExpired (opening g) w); once = λ i j d lt le. absurd (omega arith) };
}

pub kept_after : (g : Settings) (h : List Entry) → Legal g h → IsKept (state g h)
kept_after g h legal = kept_from g IsKept (expired_next g) (opening g) h (expired_opening g) legal

pub expired_timers : LawOfExpired
expired_timers g h w legal = (kept_after g h legal).expired w

-- what holds of each row holds of the first
pub first_at : (P : Row → Type 0) (rows : List Row) (row : Row) → first_of rows ≡ Some row → All P rows → P row
first_at P [] row is h = absurd cc
first_at P (r ∷ rows) row is h = let same : r ≡ row = cc in subst P same (All-head P r rows h)

-- the first of a scheduler's expired timers is one
pub first_is_expired : (s : State) (w : ℕ) (timer : TimerRef) → AreExpired s w (s.scheds w).expired → (first : IsFirst (s.scheds w).expired timer)
    → IsExpired s w first.row
first_is_expired s w timer h first = first_at (IsExpired s w) (s.scheds w).expired first.row first.first h.each

-- and so has expired
pub first_has_expired : (s : State) (w : ℕ) (timer : TimerRef) → AreExpired s w (s.scheds w).expired → IsFirst (s.scheds w).expired timer
    → s.status timer ≡ Some Expired
first_has_expired s w timer h first =
    subst (λ t. s.status t ≡ Some Expired) first.named (first_is_expired s w timer h first).expired

-- so a delivery and a drop find it expired
pub delivery_hits : LawOfDelivery
delivery_hits g h e r legal is =
    let parts = (legal_one_more g h e).0 legal in
    let known : Known g (state g h) e.by e.with (Deliver r) = subst (Known g (state g h) e.by e.with) is parts.1.known in
    let before : (state g h).status r ≡ Some Expired =
    first_has_expired (state g h) r.wheel r (expired_timers g h r.wheel parts.0) known.0 in
    (before, carry (λ (s : State). s.status r ≡ Some Delivered) (state-append g h (e ∷ [])) (rw (is, before, same_timer_self r) refl))

pub drop_hits : LawOfDrop
drop_hits g h e r legal is =
    let parts = (legal_one_more g h e).0 legal in
    let known : Known g (state g h) e.by e.with (Drop r) = subst (Known g (state g h) e.by e.with) is parts.1.known in
    let before : (state g h).status r ≡ Some Expired =
    first_has_expired (state g h) r.wheel r (expired_timers g h r.wheel parts.0) known.0 in
    (before, carry (λ (s : State). s.status r ≡ Some Dropped) (state-append g h (e ∷ [])) (rw (is, before, same_timer_self r) refl))
