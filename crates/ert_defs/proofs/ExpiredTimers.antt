-- An expired timer waits at its scheduler until it is handed over.

use Rattle.std.proofs.Common.{◌≡◌, ◌≢◌, ℕ, ℤ, Bool, true, false, cond, ◌&&◌, nat_eq, List, [], ◌∷◌, ◌++◌, All, get_or, Option, Some, refl, sym, ap, ◌∙◌, eq-eqb}
use Rattle.std.proofs.lemmas.{Bool.{and_left, and_right}, List.Elements.All-tail}
use Rattle.ert_defs.specs.{Actors.has_actor, Laws.{IsExpired, AreExpired}, Legal.{Can, CanArm, Known}, Mails.others_of, Milliseconds.deadline_of, States.{State, next}, Timers.{Row, row_of, rows_after, row_from, last_after, same_timer}}
use Rattle.ert_defs.specs.{Timers.{status_after, is_taken, timer_at}, declared.entry.Actor.Actor, declared.entry.Actor.TheVariants.Wheel, declared.entry.Entry.Entry, declared.entry.Event.Event, declared.entry.Event.TheVariants.Arm}
use Rattle.ert_defs.specs.{declared.entry.Event.TheVariants.{Cancel, Expire, Orphan, Deliver, Drop}, declared.settings.Settings.Settings, declared.timer.Status.TheVariants.Expired, declared.timer.TimerRef.TimerRef}
use Rattle.ert_defs.proofs.{Lists.pairs_tail, Rows.Differ, Runs.carry, Slots.{can_use, same_timer-true}, Statuses.arms}

pub cond_same : {X : Type 0} (b : Bool) (x : X) → cond b x x ≡ x
cond_same true x = refl
cond_same false x = refl

-- two references pass the test where they are one
pub same_timer_self : (r : TimerRef) → same_timer r r ≡ true
same_timer_self r =
    rw (eq-eqb r.wheel r.wheel refl, eq-eqb r.slot r.slot refl, eq-eqb r.generation r.generation refl) refl

other_at : (r t : TimerRef) (b : Bool) → same_timer r t ≡ b → r ≢ t → same_timer r t ≡ false
other_at r t true is not = absurd (not (same_timer-true r t is))
other_at r t false is not = is

-- and fail it where they are two
pub same_timer-false : (r t : TimerRef) → r ≢ t → same_timer r t ≡ false
same_timer-false r t not = other_at r t (same_timer r t) refl not

row_named_at : (rows : List Row) (r row : Row) (timer : TimerRef) (b : Bool) → same_timer r.timer timer ≡ b
    → (row_of rows timer ≡ Some row → row.timer ≡ timer) → cond b (Some r) (row_of rows timer) ≡ Some row → row.timer ≡ timer
row_named_at rows r row timer true is more h =
    let same : r ≡ row = cc in sym (ap (λ (x : Row). x.timer) same) ∙ same_timer-true r.timer timer is
row_named_at rows r row timer false is more h = more h

-- the row of a reference has that reference
pub row_named : (rows : List Row) (row : Row) (timer : TimerRef) → row_of rows timer ≡ Some row → row.timer ≡ timer
row_named [] row timer h = absurd cc
row_named (r ∷ rows) row timer h = row_named_at rows r row timer (same_timer r.timer timer) refl (row_named rows row timer) h

row_stays_at : (r row : Row) (b : Bool) (x y : Option Row) → (x ≡ Some row → y ≡ Some row) → cond b (Some r) x ≡ Some row → cond b (Some r) y ≡ Some row
row_stays_at r row true x y more h = h
row_stays_at r row false x y more h = more h

-- the row of a reference stays where rows are added
pub row_of-append : (rows more : List Row) (row : Row) (timer : TimerRef) → row_of rows timer ≡ Some row → row_of (rows ++ more) timer ≡ Some row
row_of-append [] more row timer h = absurd cc
row_of-append (r ∷ rows) more row timer h =
    row_stays_at r row (same_timer r.timer timer) (row_of rows timer) (row_of (rows ++ more) timer) (row_of-append rows more row timer) h

-- whether an event hands an expired timer over
abbrev pub hands : Event → TimerRef → Bool
hands (Deliver timer) r = same_timer timer r
hands (Drop timer) r = same_timer timer r
hands _ r = false

expired_stays_at : (r : TimerRef) (has_wheel : Bool) (event : Event) → (has_wheel && arms event r) ≡ false → hands event r ≡ false
    → status_after r has_wheel (Some Expired) event ≡ Some Expired
expired_stays_at r b (Arm timer start) none not = rw none refl
expired_stays_at r b (Cancel timer left) none not = cond_same (same_timer timer r) (Some Expired)
expired_stays_at r b (Expire timer) none not = cond_same (same_timer timer r) (Some Expired)
expired_stays_at r b (Orphan timer) none not = cond_same (same_timer timer r) (Some Expired)
expired_stays_at r b (Deliver timer) none not = rw not refl
expired_stays_at r b (Drop timer) none not = rw not refl
expired_stays_at r b _ none not = refl

-- the slot of a waiting timer is not the one that is armed
kept_at : (g : Settings) (s : State) (by : Actor) (timer : TimerRef) (deadline : Option ℕ) (w : ℕ) (row : Row) (b : Bool) → CanArm g s by timer deadline
    → IsExpired s w row → (nat_eq timer.wheel w && nat_eq timer.slot row.timer.slot) ≡ b
    → (nat_eq timer.wheel w && nat_eq timer.slot row.timer.slot) ≡ false
kept_at g s by timer deadline w row true can waits is =
    let free : is_taken (s.status (timer_at w row.timer.slot (s.last w row.timer.slot))) ≡ false = (can_use g s by timer deadline w row.timer.slot can is).free in
    let last : is_taken (s.status (timer_at w row.timer.slot row.timer.generation)) ≡ false =
    carry (λ n. is_taken (s.status (timer_at w row.timer.slot n)) ≡ false) waits.last free in
    let own : is_taken (s.status row.timer) ≡ false =
    carry (λ n. is_taken (s.status (timer_at n row.timer.slot row.timer.generation)) ≡ false) waits.wheel last in
    let no : true ≡ false = rw waits.expired at own in
    absurd cc
kept_at g s by timer deadline w row false can waits is = is

slot_kept : (g : Settings) (s : State) (by : Actor) (timer : TimerRef) (deadline : Option ℕ) (w : ℕ) (row : Row) → CanArm g s by timer deadline
    → IsExpired s w row → (nat_eq timer.wheel w && nat_eq timer.slot row.timer.slot) ≡ false
slot_kept g s by timer deadline w row can waits =
    kept_at g s by timer deadline w row (nat_eq timer.wheel w && nat_eq timer.slot row.timer.slot) can waits refl

-- a waiting timer is not armed
none_arms : (g : Settings) (s : State) (by : Actor) (with : Option Actor) (event : Event) (w : ℕ) (row : Row) (b : Bool) → Known g s by with event
    → IsExpired s w row → (b && arms event row.timer) ≡ false
none_arms g s by with (Arm timer start) w row b known waits =
    let place = slot_kept g s by timer _ w row known waits in
    let own : (nat_eq timer.wheel row.timer.wheel && nat_eq timer.slot row.timer.slot) ≡ false =
    carry (λ n. (nat_eq timer.wheel n && nat_eq timer.slot row.timer.slot) ≡ false) waits.wheel place in
    and_right b (same_timer timer row.timer)
    (and_left (nat_eq timer.wheel row.timer.wheel && nat_eq timer.slot row.timer.slot) (nat_eq timer.generation row.timer.generation) own)
none_arms g s by with _ w row b known waits = and_right b false refl

-- its slot has no later timer
last_kept : (g : Settings) (s : State) (by : Actor) (with : Option Actor) (event : Event) (w : ℕ) (row : Row) (b : Bool) → Known g s by with event
    → IsExpired s w row
    → cond b (last_after w row.timer.slot (s.last w row.timer.slot) event) (s.last w row.timer.slot) ≡ s.last w row.timer.slot
last_kept g s by with event w row false known waits = refl
last_kept g s by with (Arm timer start) w row true known waits = rw (slot_kept g s by timer _ w row known waits) refl
last_kept g s by with _ w row true known waits = refl

row_cond : (b : Bool) (rows more : List Row) (row : Row) (timer : TimerRef) → row_of rows timer ≡ Some row → row_of more timer ≡ Some row
    → row_of (cond b more rows) timer ≡ Some row
row_cond true rows more row timer h k = k
row_cond false rows more row timer h k = h

-- and its row stands
pub row_kept : (g : Settings) (look : ℤ) (w : ℕ) (rows : List Row) (row : Row) (timer : TimerRef) (b : Bool) (event : Event) → row_of rows timer ≡ Some row
    → row_of (cond b (rows_after g look w rows event) rows) timer ≡ Some row
row_kept g look w rows row timer false event h = h
row_kept g look w rows row timer true (Arm t start) h =
    let more : List Row = row_from t start (deadline_of g start look) in
    row_cond (nat_eq t.wheel w) rows (rows ++ more) row timer h (row_of-append rows more row timer h)
row_kept g look w rows row timer true _ h = h

-- a waiting timer waits on until it is handed over
pub expired_stays : (g : Settings) (s : State) (e : Entry) (w : ℕ) (row : Row) → Can g s e → hands e.event row.timer ≡ false → IsExpired s w row
    → IsExpired (next g s e) w row
expired_stays g s e w row can not waits = record {
  expired = carry (λ x. status_after row.timer (has_actor e (Wheel row.timer.wheel)) x e.event ≡ Some Expired) waits.expired
      (expired_stays_at row.timer (has_actor e (Wheel row.timer.wheel)) e.event
      (none_arms g s e.by e.with e.event w row (has_actor e (Wheel row.timer.wheel)) can.known waits) not);
  wheel = waits.wheel;
  stands = row_kept g (s.looked e.by) w (s.rows w) row row.timer (has_actor e (Wheel w)) e.event waits.stands;
  last = waits.last ∙ sym (last_kept g s e.by e.with e.event w row (has_actor e (Wheel w)) can.known waits);
}

-- so do all of them, where none is handed over
pub all_stay : (g : Settings) (s : State) (e : Entry) (w : ℕ) (rows : List Row) → Can g s e
    → All (λ row. hands e.event row.timer ≡ false) rows → AreExpired s w rows → AreExpired (next g s e) w rows
all_stay g s e w rows can not h = record {
  each = λ k d lt. expired_stays g s e w (get_or rows k d) can (not k d lt) (h.each k d lt);
  once = h.once;
}

pub expired_others : (s : State) (w : ℕ) (rows : List Row) → AreExpired s w rows → AreExpired s w (others_of rows)
expired_others s w [] h = h
expired_others s w (r ∷ rows) h = record {
  each = All-tail (IsExpired s w) r rows h.each;
  once = pairs_tail Differ r rows h.once;
}
