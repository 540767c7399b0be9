-- What entries leave of a timer, of an exit, of requests and of a full wheel.

use Rattle.std.proofs.Common.{◌≡◌, ◌≢◌, ℕ, Bool, true, false, cond, ◌&&◌, ◌||◌, nat_eq, List, [], ◌∷◌, Option, Some, None, refl, sym, subst, inl, inr}
use Rattle.ert_defs.specs.{Actors.has_actor, Laws.MayMove, Legal.{Known, LegalFrom, HasDestExited}, Mails.{SchedState, inbox_after, sched_after}, States.{State, next, run, exited_after}, Timers.{Row, row_of, same_timer, status_after}}
use Rattle.ert_defs.specs.{Timers.{settled_as, handed_as}, declared.entry.Actor.Actor, declared.entry.Actor.TheVariants.{Wheel, Inbox, Sched}, declared.entry.Entry.Entry, declared.entry.Event.Event, declared.entry.Event.TheVariants.Arm}
use Rattle.ert_defs.specs.{declared.entry.Event.TheVariants.{Peek, Cancel, Expire, Orphan, Deliver, Drop, Mark, Ask, Pick, Answer}, declared.mail.Request.Request, declared.settings.Settings.Settings, declared.timer.Status.Status}
use Rattle.ert_defs.specs.{declared.timer.Status.TheVariants.{Armed, Expired, Delivered, Cancelled, Orphaned, Dropped}, declared.timer.TimerRef.TimerRef}
use Rattle.ert_defs.proofs.{ExpiredTimers.row_kept, Settlings.moves_next, Slots.{IsOrdered, ordered_next, same_timer-true}}
use Rattle.ert_interval.specs.Intervals.{IsPastExpiry, IsGoing, HasNoRequests}

-- a row stays
pub row_stays : (g : Settings) (s : State) (es : List Entry) (r : TimerRef) (row : Row) → row_of (s.rows r.wheel) r ≡ Some row
    → row_of ((run g s es).rows r.wheel) r ≡ Some row
row_stays g s [] r row is = is
row_stays g s (e ∷ es) r row is =
    row_stays g (next g s e) es r row (row_kept g (s.looked e.by) r.wheel (s.rows r.wheel) row r (has_actor e (Wheel r.wheel)) e.event is)

-- what every move of a status keeps, every legal run does
stays_from : (P : Option Status → Type 0) → ((x y : Option Status) → MayMove x y → P x → P y)
    → (g : Settings) (s : State) (es : List Entry) (r : TimerRef) → IsOrdered s → LegalFrom g s es → P (s.status r) → P ((run g s es).status r)
stays_from P moves g s [] r ordered legal p = p
stays_from P moves g s (e ∷ es) r ordered legal p =
    stays_from P moves g (next g s e) es r (ordered_next g s e ordered legal.0) legal.1
    (moves (s.status r) ((next g s e).status r) (moves_next g s e r ordered legal.0) p)

expired_moves : (x y : Option Status) → MayMove x y → IsPastExpiry x → IsPastExpiry y
expired_moves None y may expired = absurd expired
expired_moves (Some Armed) y may expired = absurd expired
expired_moves (Some Cancelled) y may expired = absurd expired
expired_moves (Some Orphaned) y may expired = absurd expired
expired_moves (Some Expired) y may expired =
    elim may [ inl a ↦ subst IsPastExpiry (sym a) tt | inr b ↦ elim b [ inl c ↦ subst IsPastExpiry (sym c) tt | inr d ↦ subst IsPastExpiry (sym d) tt ] ]
expired_moves (Some Delivered) y may expired = subst IsPastExpiry (sym may) tt
expired_moves (Some Dropped) y may expired = subst IsPastExpiry (sym may) tt

-- a timer that has expired has expired for ever
pub expired_stays : (g : Settings) (s : State) (es : List Entry) (r : TimerRef) → IsOrdered s → LegalFrom g s es → IsPastExpiry (s.status r)
    → IsPastExpiry ((run g s es).status r)
expired_stays = stays_from IsPastExpiry expired_moves

used_moves : (x y : Option Status) → MayMove x y → x ≢ None → y ≢ None
used_moves None y may used = absurd (used refl)
used_moves (Some Armed) y may used =
    elim may [
      | inl a ↦ λ none. absurd (cc)
      | inr b ↦ elim b [ inl c ↦ λ none. absurd (cc) | inr d ↦ elim d [ inl i ↦ λ none. absurd (cc) | inr j ↦ λ none. absurd (cc) ] ]
    ]
used_moves (Some Expired) y may used =
    elim may [ inl a ↦ λ none. absurd (cc) | inr b ↦ elim b [ inl c ↦ λ none. absurd (cc) | inr d ↦ λ none. absurd (cc) ] ]
used_moves (Some Delivered) y may used = λ none. absurd (cc)
used_moves (Some Dropped) y may used = λ none. absurd (cc)
used_moves (Some Cancelled) y may used = λ none. absurd (cc)
used_moves (Some Orphaned) y may used = λ none. absurd (cc)

-- a timer that was armed once has a status for ever
pub used_stays : (g : Settings) (s : State) (es : List Entry) (r : TimerRef) → IsOrdered s → LegalFrom g s es → s.status r ≢ None
    → (run g s es).status r ≢ None
used_stays = stays_from (λ x. x ≢ None) used_moves

-- a timer that was armed and isn't
abbrev pub IsDone : Option Status → Type 0
IsDone x = (x ≢ None) × (x ≢ Some Armed)

done_moves : (x y : Option Status) → MayMove x y → IsDone x → IsDone y
done_moves None y may done = absurd (done.0 refl)
done_moves (Some Armed) y may done = absurd (done.1 refl)
done_moves (Some Expired) y may done =
    elim may [
      | inl a ↦ (λ none. absurd (cc), λ armed. absurd (cc))
      | inr b ↦ elim b [ inl c ↦ (λ none. absurd (cc), λ armed. absurd (cc)) | inr d ↦ (λ none. absurd (cc), λ armed. absurd (cc)) ]
    ]
done_moves (Some Delivered) y may done = (λ none. absurd (cc), λ armed. absurd (cc))
done_moves (Some Dropped) y may done = (λ none. absurd (cc), λ armed. absurd (cc))
done_moves (Some Cancelled) y may done = (λ none. absurd (cc), λ armed. absurd (cc))
done_moves (Some Orphaned) y may done = (λ none. absurd (cc), λ armed. absurd (cc))

pub done_stays : (g : Settings) (s : State) (es : List Entry) (r : TimerRef) → IsOrdered s → LegalFrom g s es → IsDone (s.status r)
    → IsDone ((run g s es).status r)
done_stays = stays_from IsDone done_moves

-- an entry doesn't cancel this timer
abbrev pub spares : TimerRef → Event → Type 0
spares r (Cancel timer left) = same_timer timer r ≡ false
spares r _ = Unit {0}

abbrev pub AllSpare : TimerRef → List Entry → Type 0
AllSpare r [] = Unit {0}
AllSpare r (e ∷ es) = spares r e.event × AllSpare r es

going_exits : (x : Option Status) (exited b : Bool) → IsGoing x exited → IsGoing x (exited || b)
going_exits None exited b h = h
going_exits (Some Cancelled) exited b h = h
going_exits (Some Orphaned) exited b h = rw h refl
going_exits (Some Armed) exited b h = tt
going_exits (Some Expired) exited b h = tt
going_exits (Some Delivered) exited b h = tt
going_exits (Some Dropped) exited b h = tt

going_expires : (x : Option Status) (exited : Bool) → IsGoing x exited → IsGoing (settled_as Expired x) exited
going_expires None exited h = h
going_expires (Some Cancelled) exited h = h
going_expires (Some Orphaned) exited h = h
going_expires (Some Armed) exited h = tt
going_expires (Some Expired) exited h = tt
going_expires (Some Delivered) exited h = tt
going_expires (Some Dropped) exited h = tt

going_orphaned : (x : Option Status) (exited : Bool) → exited ≡ true → IsGoing x exited → IsGoing (settled_as Orphaned x) exited
going_orphaned None exited is h = h
going_orphaned (Some Cancelled) exited is h = h
going_orphaned (Some Orphaned) exited is h = h
going_orphaned (Some Armed) exited is h = is
going_orphaned (Some Expired) exited is h = tt
going_orphaned (Some Delivered) exited is h = tt
going_orphaned (Some Dropped) exited is h = tt

going_delivered : (x : Option Status) (exited : Bool) → IsGoing x exited → IsGoing (handed_as Delivered x) exited
going_delivered None exited h = h
going_delivered (Some Cancelled) exited h = h
going_delivered (Some Orphaned) exited h = h
going_delivered (Some Armed) exited h = tt
going_delivered (Some Expired) exited h = tt
going_delivered (Some Delivered) exited h = tt
going_delivered (Some Dropped) exited h = tt

going_dropped : (x : Option Status) (exited : Bool) → IsGoing x exited → IsGoing (handed_as Dropped x) exited
going_dropped None exited h = h
going_dropped (Some Cancelled) exited h = h
going_dropped (Some Orphaned) exited h = h
going_dropped (Some Armed) exited h = tt
going_dropped (Some Expired) exited h = tt
going_dropped (Some Delivered) exited h = tt
going_dropped (Some Dropped) exited h = tt

going_cond : (b : Bool) (x y : Option Status) (exited : Bool) → (b ≡ true → IsGoing y exited) → IsGoing x exited → IsGoing (cond b y x) exited
going_cond true x y exited other h = other refl
going_cond false x y exited other h = h

-- an orphan is of a process that has exited
orphan_exited : (s : State) (timer r : TimerRef) (row : Row) → HasDestExited s timer → row_of (s.rows r.wheel) r ≡ Some row
    → same_timer timer r ≡ true → s.exited row.dest ≡ true
orphan_exited s timer r row has is same =
    let one : timer ≡ r = same_timer-true timer r same in
    let stands : row_of (s.rows r.wheel) r ≡ Some has.row = subst (λ (t : TimerRef). row_of (s.rows t.wheel) t ≡ Some has.row) one has.stands in
    let rows : has.row ≡ row = cc in
    subst (λ (x : Row). s.exited x.dest ≡ true) rows has.exited

going_event : (g : Settings) (s : State) (by : Actor) (with : Option Actor) (r : TimerRef) (row : Row) (b : Bool) (event : Event) → Known g s by with event
    → spares r event → row_of (s.rows r.wheel) r ≡ Some row → IsGoing (s.status r) (s.exited row.dest)
    → IsGoing (status_after r b (s.status r) event) (exited_after row.dest (s.exited row.dest) event)
going_event g s by with r row b (Arm timer start) known spared is h = going_cond (b && same_timer timer r) (s.status r) (Some Armed) (s.exited row.dest) (λ _. tt) h
going_event g s by with r row b (Cancel timer left) known spared is h = rw spared h
going_event g s by with r row b (Expire timer) known spared is h =
    going_cond (same_timer timer r) (s.status r) (settled_as Expired (s.status r)) (s.exited row.dest) (λ _. going_expires (s.status r) (s.exited row.dest) h) h
going_event g s by with r row b (Orphan timer) known spared is h =
    going_cond (same_timer timer r) (s.status r) (settled_as Orphaned (s.status r)) (s.exited row.dest)
    (λ same. going_orphaned (s.status r) (s.exited row.dest) (orphan_exited s timer r row known is same) h) h
going_event g s by with r row b (Deliver timer) known spared is h =
    going_cond (same_timer timer r) (s.status r) (handed_as Delivered (s.status r)) (s.exited row.dest) (λ _. going_delivered (s.status r) (s.exited row.dest) h) h
going_event g s by with r row b (Drop timer) known spared is h =
    going_cond (same_timer timer r) (s.status r) (handed_as Dropped (s.status r)) (s.exited row.dest) (λ _. going_dropped (s.status r) (s.exited row.dest) h) h
going_event g s by with r row b (Mark process exits was) known spared is h =
    going_exits (s.status r) (s.exited row.dest) (nat_eq process row.dest && exits) h
going_event g s by with r row b _ known spared is h = h

-- a timer goes on while it isn't cancelled
pub going_stays : (g : Settings) (s : State) (es : List Entry) (r : TimerRef) (row : Row) → LegalFrom g s es → AllSpare r es
    → row_of (s.rows r.wheel) r ≡ Some row → IsGoing (s.status r) (s.exited row.dest)
    → IsGoing ((run g s es).status r) ((run g s es).exited row.dest)
going_stays g s [] r row legal spare is h = h
going_stays g s (e ∷ es) r row legal spare is h =
    going_stays g (next g s e) es r row legal.1 spare.1
    (row_kept g (s.looked e.by) r.wheel (s.rows r.wheel) row r (has_actor e (Wheel r.wheel)) e.event is)
    (going_event g s e.by e.with r row (has_actor e (Wheel r.wheel)) e.event legal.0.known spare.0 is h)

-- an entry puts no request
abbrev pub asks : Event → Bool
asks (Ask wheel request) = true
asks (Pick wheel (Some request)) = true
asks _ = false

abbrev pub NoneAsks : List Entry → Type 0
NoneAsks [] = Unit {0}
NoneAsks (e ∷ es) = (asks e.event ≡ false) × NoneAsks es

pub cond_same : {X : Type 0} (b : Bool) (x y z : X) → x ≡ z → y ≡ z → cond b x y ≡ z
cond_same true x y z is other = is
cond_same false x y z is other = other

inbox_none : (requests : List Request) (event : Event) → asks event ≡ false → requests ≡ [] → inbox_after requests event ≡ []
inbox_none requests (Ask wheel request) none is = absurd cc
inbox_none requests (Pick wheel got) none is = rw is refl
inbox_none requests _ none is = is

hand_none : (rows : ℕ → List Row) (s : SchedState) (event : Event) → asks event ≡ false → s.hand ≡ None → (sched_after rows s event).hand ≡ None
hand_none rows s (Pick wheel None) none is = refl
hand_none rows s (Pick wheel (Some request)) none is = absurd cc
hand_none rows s (Peek timer left) none is = is
hand_none rows s (Cancel timer left) none is = is
hand_none rows s (Expire timer) none is = is
hand_none rows s (Deliver timer) none is = is
hand_none rows s (Drop timer) none is = is
hand_none rows s (Answer wheel left) none is = refl
hand_none rows s _ none is = is

hand_cond : (b : Bool) (x y : SchedState) → x.hand ≡ None → y.hand ≡ None → (cond b x y).hand ≡ None
hand_cond true x y is other = is
hand_cond false x y is other = other

-- no request comes where none is asked
pub idle_stays : (g : Settings) (s : State) (es : List Entry) → NoneAsks es → HasNoRequests s → HasNoRequests (run g s es)
idle_stays g s [] none idle = idle
idle_stays g s (e ∷ es) none idle =
    idle_stays g (next g s e) es none.1 (λ w. (
      cond_same (has_actor e (Inbox w)) (inbox_after (s.inboxes w) e.event) (s.inboxes w) [] (inbox_none (s.inboxes w) e.event none.0 (idle w).0) (idle w).0,
      hand_cond (has_actor e (Sched w)) (sched_after s.rows (s.scheds w) e.event) (s.scheds w) (hand_none s.rows (s.scheds w) e.event none.0 (idle w).1) (idle w).1,
    ))

pub none_from : (x : Option Status) → (x ≢ None → ⊥) → x ≡ None
none_from None h = refl
none_from (Some status) h = absurd (h (λ is. absurd cc))
