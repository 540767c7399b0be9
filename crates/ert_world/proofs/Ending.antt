-- A timer that a wheel of a world holds is cancelled, or was settled before, and then its row goes.

use Rattle.std.proofs.Common.{◌≡◌, ◌≢◌, ◌⊎◌, ⊎_elim, ℕ, zero, suc, ◌+◌, ◌<◌, ◌≤◌, Bool, true, false, ◌&&◌, ◌||◌, List, [], ◌∷◌, ◌++◌, filter, count_by, slice_index_or, Option, Some, None, inl, inr, refl, sym, ap, subst, ◌∙◌, arith}
use Rattle.std.specs.Option.{is_some}
use Rattle.std.specs.Prelude.{slice_set, nat_lt, nat_le}
use Rattle.std.proofs.lemmas.{Bool.{le-leb, lt-ltb}, List.set-get_or, List.Elements.filter-append, List.Sums.count_by-le-length}
use Rattle.ert_table.specs.{Left.{AtLastStep, IsLeftByLook, IsMadeTellingLeft, TellsLeft}, Desks.{settings_of, view_of, front_of}, declared.desk.Desk.Desk, declared.desk.Pass.Pass, declared.view.View.View}
use Rattle.ert_defs.proofs.{Slots.ordered, Runs.state-append}
use Rattle.ert_defs.specs.{Actors.{IsFree, has_actor, of}, Entries.{is_ours, look_entry}, Legal.{is_generation, names_timer}, States.{State, state, uses_at}, Timers.{Row, row_of}, declared.entry.Actor.Actor}
use Rattle.ert_defs.specs.{declared.entry.Actor.TheVariants.{Wheel, Caller}, declared.entry.Entry.Entry, declared.settings.Settings.Settings, declared.settings.TheConstants.MOST_SLOTS, declared.timer.Status.Status}
use Rattle.ert_defs.specs.{declared.timer.Status.TheVariants.Armed, declared.timer.TimerRef.TimerRef}
use Rattle.ert_effects.specs.{TimerCalls.{Cancels, cancel_entries}, WheelCalls.{IsFor, IsSwept}}
use Rattle.ert_timers.proofs.{Later.later_free, Rows.armed_row, Swept.swept_rows, Tried.held_found}
use Rattle.ert_timers.specs.{Changes.given_back, Freeing.IsHeld, HeldFor.IsHeldFor, Parts.{Part, PartStands as WheelStands, IsLive, last_timer, held_row}, Passed.LosesRows}
use Rattle.ert_wheel.proofs.{Looking.key_low, Views.counts_less}
use Rattle.ert_wheel.specs.{Rows.key_in, declared.row.Key.Key}
use Rattle.ert_world.proofs.{Calls.{Has, parts_in, processes_at, schedulers_at}, CancelCalls.{DoesBut, DoesCancel, cancelled_settled, cancelled_some}, Cancelled.cancel_only, NextDue.part_at, Returned.at_place, Standing.free_kept}
use Rattle.ert_world.specs.{Cancelling.IsHeldAt, Worlds.{Seen, By}, declared.world.World.TheInside.Inside}

-- a number of a generation, by the round of its slot
generation_is : (n since : ℕ) → 1 ≤ n → (since ≡ 0 → n ≤ 262143) → (1 ≤ since → 8796093022208 ≤ n) → n < 2305843009213693952 → is_generation n ≡ true
generation_is n zero some first later high =
    let one : nat_le 1 n ≡ true = le-leb 1 n some in
    let low : nat_le n 262143 ≡ true = le-leb n 262143 (first refl) in
    rw (one, low) refl
generation_is n (suc since) some first later high =
    let low : nat_le 8796093022208 n ≡ true = le-leb 8796093022208 n (later (omega arith)) in
    let below : nat_lt n 2305843009213693952 ≡ true = lt-ltb n 2305843009213693952 high in
    or_true (nat_le 1 n && nat_le n 262143) (nat_le 8796093022208 n && nat_lt n 2305843009213693952) (rw (low, below) refl)
  where
    or_true : (x y : Bool) → y ≡ true → (x || y) ≡ true
    or_true true y is = refl
    or_true false y is = is

live_some : (x : Option Status) → IsLive x → x ≢ None
live_some None live = absurd live
live_some (Some x) live = λ none. (let clash : Some x ≡ None = none in cc)

-- the key of a row that is held
held_key : (p : Part) (timer : TimerRef) → IsHeld p timer → (key : Key) × (key_in p.keys timer.slot ≡ Some key)
held_key p timer held = at (key_in p.keys timer.slot) refl
  where
    at : (o : Option Key) → key_in p.keys timer.slot ≡ o → (key : Key) × (key_in p.keys timer.slot ≡ Some key)
    at None is = absurd (held.row is)
    at (Some key) is = (key, is)

-- a timer that is held is named
names_held : (g : Settings) (h : List Entry) (p : Part) (timer : TimerRef) → WheelStands g h p → IsHeld p timer → names_timer g timer ≡ true
names_held g h p timer stands held =
    let w : ℕ = p.number in
    let k : ℕ = timer.slot in
    let n : ℕ = timer.generation in
    let low : k < g.slots = subst (λ (m : ℕ). k < m) stands.holds.many held.low in
    let order = ordered g h stands.legal w k in
    let key = held_key p timer held in
    let last : n ≡ (uses_at (state g h) w k).last = ap (λ (r : TimerRef). r.generation) held.named ∙ stands.holds.lasts k low in
    let some : (state g h).status timer ≢ None =
    subst (λ (r : TimerRef). (state g h).status r ≢ None) (sym held.named) (live_some ((state g h).status (last_timer w p.slots k)) (stands.holds.rows.live k key.0 key.1)) in
    let at_wheel : timer.wheel ≡ w = ap (λ (r : TimerRef). r.wheel) held.named in
    let zero_none : n ≢ 0 = λ is. some (subst (λ (r : TimerRef). (state g h).status r ≡ None) (sym (timer_zero timer w at_wheel is)) order.none) in
    let wheel : nat_lt timer.wheel g.schedulers ≡ true = lt-ltb timer.wheel g.schedulers (subst (λ (m : ℕ). m < g.schedulers) (sym at_wheel) stands.holds.number) in
    let slot : nat_lt timer.slot g.slots ≡ true = lt-ltb k g.slots low in
    let generation : is_generation n ≡ true =
    generation_is n (uses_at (state g h) w k).since (omega (arith, zero_none)) (λ is. subst (λ m. m ≤ 262143) (sym last) (order.sound.first is))
    (λ is. subst (λ m. 8796093022208 ≤ m) (sym last) (order.sound.later is)) (subst (λ m. m < 2305843009213693952) (sym last) order.sound.last_high) in
    rw (wheel, slot) generation
  where
    timer_zero : (timer : TimerRef) (w : ℕ) → timer.wheel ≡ w → timer.generation ≡ 0 → timer ≡ record { wheel = w; slot = timer.slot; generation = 0 }
    timer_zero timer w wheel generation =
        ap (λ n. let r : TimerRef = record { wheel = timer.wheel; slot = timer.slot; generation = n } in r) generation
        ∙ ap (λ n. let r : TimerRef = record { wheel = n; slot = timer.slot; generation = 0 } in r) wheel

-- the end of a list that goes on is the end of what came
end_of : {X : Type 0} (xs ys zs : List X) (l : X) → xs ++ ys ≡ zs ++ l ∷ [] → (ys ≡ []) ⊎ ((rest : List X) × (ys ≡ rest ++ l ∷ []))
end_of [] ys zs l is = inr (zs, is)
end_of (x ∷ xs) ys [] l is = inl (none_after xs ys (let rest : xs ++ ys ≡ [] = cc in rest))
  where
    none_after : {X : Type 0} (xs ys : List X) → xs ++ ys ≡ [] → ys ≡ []
    none_after [] ys none = none
    none_after (x ∷ xs) ys none = absurd cc
end_of (x ∷ xs) ys (z ∷ zs) l is = end_of xs ys zs l (let rest : xs ++ ys ≡ zs ++ l ∷ [] = cc in rest)

none_behind : {X : Type 0} (xs ys : List X) → xs ++ ys ≡ [] → ys ≡ []
none_behind [] ys none = none
none_behind (x ∷ xs) ys none = absurd cc

-- a cancel that found nothing left leaves its timer unarmed
missed_over : (g : Settings) (v : View) (by : Actor) (timer : TimerRef) (w : View) (told : IsMadeTellingLeft g v by timer None (Cancels g by timer None) w) → names_timer g timer ≡ true
    → IsFree told.call.call.later (Wheel timer.wheel) → (state g w.front).status timer ≢ Some Armed
missed_over g v by timer w told names free =
    let left : AtLastStep g w.front (IsLeftByLook g by timer None) = subst (λ (b : Bool). TellsLeft b g by timer None w) names told.left in
    let later : List Entry = told.call.call.later in
    let over : (state g left.before).status timer ≢ Some Armed = λ is. (let some = left.held.armed.1 is in cc) in
    ⊎_elim
    (λ none.
    let clash : [] ≡ look_entry by told.call.allowed.now ∷ cancel_entries (names_timer g timer) by timer told.call.allowed.found None =
    subst (λ (m : List Entry). filter (is_ours v.actors) m ≡ told.call.entries) none told.call.call.ours ∙ told.call.allowed.entries in
    absurd cc)
    (λ ended. after left.before left.last left.grown over ended.0 ended.1)
    (end_of v.front later left.before left.last (sym told.call.call.grown ∙ left.grown))
  where
    after : (before : List Entry) (last : Entry) → w.front ≡ before ++ last ∷ [] → (state g before).status timer ≢ Some Armed → (rest : List Entry)
        → told.call.call.later ≡ rest ++ last ∷ [] → (state g w.front).status timer ≢ Some Armed
    after before last grown over rest is =
        let alone : IsFree (last ∷ []) (Wheel timer.wheel) =
        none_behind (of rest (Wheel timer.wheel)) (of (last ∷ []) (Wheel timer.wheel))
        (sym (filter-append (λ (e : Entry). has_actor e (Wheel timer.wheel)) rest (last ∷ [])) ∙ (ap (λ (m : List Entry). of m (Wheel timer.wheel)) (sym is) ∙ free)) in
        let steps : state g w.front ≡ _ = ap (state g) grown ∙ state-append g before (last ∷ []) in
        λ armed. over ((later_free g timer.wheel (state g before) (last ∷ []) alone).armed timer refl (ap (λ (s : State). s.status timer) (sym steps) ∙ armed))

-- a timer that was cancelled, or wasn't, is settled then
pub ended_over : (before : Seen) (b : Inside) (d : Desk) (q : Pass) (old : Part) (timer : TimerRef) (left : Option ℕ) → Has before b d
    → timer.wheel < before.settings.schedulers → old ≡ slice_index_or b.wheels.items timer.wheel old → IsHeld old timer
    → DoesBut timer left before d q b.next (parts_in b) (λ w. By w (λ g. Cancels g (Caller 0) timer left))
    → IsMadeTellingLeft (settings_of d) (view_of b.pass) (Caller 0) timer left (Cancels (settings_of d) (Caller 0) timer left) (view_of q)
    → (state (settings_of d) (front_of q)).status timer ≢ Some Armed
ended_over before b d q old timer (Some left) has low lent held done told = done.goes.gone.1
ended_over before b d q old timer None has low lent held done told =
    let g : Settings = settings_of d in
    let below : timer.wheel < g.schedulers = schedulers_at has timer.wheel low in
    let stands : WheelStands g (front_of b.pass) old = subst (WheelStands g (front_of b.pass)) (sym lent) (has.fit.stand.wheels.stand timer.wheel old below refl) in
    missed_over g (view_of b.pass) (Caller 0) timer (view_of q) told (names_held g (front_of b.pass) old timer stands held)
    (free_kept g (view_of b.pass) told.call.entries (view_of q) (Caller 0 ∷ []) (Wheel timer.wheel) told.call.call
    (cancel_only g (Caller 0) timer None (state g (front_of b.pass)) told.call.entries told.call.allowed)
    (has.fit.holds.rest (Wheel timer.wheel) below tt) refl)

-- and its row goes
pub ended : (before : Seen) (b : Inside) (d : Desk) (q : Pass) (timer : TimerRef) (left : Option ℕ) (old new : Part) → Has before b d
    → DoesBut timer left before d q b.next (parts_in b) (λ w. By w (λ g. Cancels g (Caller 0) timer left))
    → timer.wheel < (settings_of d).schedulers → old ≡ slice_index_or b.wheels.items timer.wheel old → new.number ≡ old.number
    → WheelStands (settings_of d) (front_of q) new → LosesRows old new → (IsHeld new timer → ⊥)
    → DoesCancel before d q b.next (record (parts_in b) { wheels = slice_set b.wheels.items timer.wheel new }) (λ w. By w (λ g. Cancels g (Caller 0) timer left))
ended before b d q timer (Some left) old new has done low lent named stands loses gone =
    cancelled_some before b d q (parts_in b) timer left old new (λ w. By w (λ g. Cancels g (Caller 0) timer (Some left))) has done lent named stands loses gone
ended before b d q timer None old new has done low lent named stands loses gone =
    cancelled_settled before b d q (parts_in b) timer old new (λ w. By w (λ g. Cancels g (Caller 0) timer None)) has done low lent named stands loses gone

-- a wheel of a world holds as many rows as it has slots at most
pub rows_few : (before : Seen) (b : Inside) (d : Desk) (i : ℕ) → Has before b d → i < before.settings.schedulers
    → (x : Part) → count_by is_some (slice_index_or before.wheels i x).keys ≤ MOST_SLOTS
rows_few before b d i has low x =
    let g : Settings = settings_of d in
    let p : Part = slice_index_or b.wheels.items i x in
    let stands : WheelStands g (front_of b.pass) p = has.fit.stand.wheels.stand i x (schedulers_at has i low) refl in
    let few = count_by-le-length is_some p.keys in
    subst (λ (w : Seen). count_by is_some (slice_index_or w.wheels i x).keys ≤ MOST_SLOTS) has.is
    (omega (arith, few, stands.holds.wide, stands.checked.counts.slots_high))

-- it holds fewer after one went
pub rows_fewer : (before : Seen) (b : Inside) (d : Desk) (timer : TimerRef) (old new : Part) → Has before b d → timer.wheel < before.settings.schedulers
    → old ≡ slice_index_or b.wheels.items timer.wheel old → IsHeld old timer → new ≡ given_back old timer.slot false
    → (x : Part) → count_by is_some (slice_index_or (slice_set b.wheels.items timer.wheel new) timer.wheel x).keys + 1
    ≤ count_by is_some (slice_index_or before.wheels timer.wheel x).keys
rows_fewer before b d timer old new has low lent held back x =
    let i : ℕ = timer.wheel in
    let key = held_key old timer held in
    let less = counts_less old.keys timer.slot key.0 (key_low old.keys timer.slot key.0 key.1) key.1 in
    let count : count_by is_some new.keys + 1 ≡ count_by is_some old.keys = ap (λ (p : Part). count_by is_some p.keys + 1) back ∙ less in
    let here : old ≡ slice_index_or b.wheels.items i x = part_at before b d i old has low lent x in
    subst (λ (w : Seen). count_by is_some (slice_index_or (slice_set b.wheels.items i new) i x).keys + 1 ≤ count_by is_some (slice_index_or w.wheels i x).keys) has.is
    (at_place (λ (y : Part). count_by is_some y.keys + 1 ≤ count_by is_some (slice_index_or b.wheels.items i x).keys) b.wheels.items i i new x
    (rw has.fit.stand.wheels.counted (schedulers_at has i low))
    (λ one. omega (arith, count, ap (λ (p : Part). count_by is_some p.keys) here)) (λ other. absurd (other refl)))

-- where a part holds no row of a process none of its timers is armed
part_swept : (g : Settings) (h : List Entry) (process : ℕ) (p : Part) → WheelStands g h p → IsHeldFor p process None → IsSwept (state g h) p.number process
part_swept g h process p stands none =
    swept_rows (state g h).status process ((state g h).rows p.number) (λ n row at dest armed.
    let is = armed_row (state g h) p.number p.slots p.keys n row stands.holds.rows at armed in
    none row.timer.slot (record { deadline = row.deadline; order = n }) (stands.holds.rows.armed n row at armed) (sym (ap (λ (r : Row). r.dest) is) ∙ dest))

pub held_old : (before : Seen) (b : Inside) (d : Desk) (i : ℕ) (old : Part) (timer : TimerRef) → Has before b d → old ≡ slice_index_or b.wheels.items i old
    → ((x : Part) → IsHeld (slice_index_or before.wheels i x) timer) → IsHeld old timer
held_old before b d i old timer has lent held =
    subst (λ (p : Part). IsHeld p timer) (sym lent) (subst (λ (w : Seen). IsHeld (slice_index_or w.wheels i old) timer) (sym has.is) (held old))

-- what a wheel holds for a process is so of the world
pub held_at : (before : Seen) (b : Inside) (d : Desk) (i process : ℕ) (old : Part) (answer : Option TimerRef) → Has before b d → i < before.settings.schedulers
    → old ≡ slice_index_or b.wheels.items i old → IsHeldFor old process answer → IsHeldAt before i process answer
held_at before b d i process old (Some timer) has low lent held =
    let g : Settings = settings_of d in
    let h : List Entry = front_of b.pass in
    let below : i < g.schedulers = schedulers_at has i low in
    let stands : WheelStands g h old = subst (WheelStands g h) (sym lent) (has.fit.stand.wheels.stand i old below refl) in
    let number : old.number ≡ i = ap (λ (x : Part). x.number) lent ∙ has.fit.stand.wheels.named i old below in
    let key = held_key old timer held.0 in
    let row : Row = held_row old.number old.slots timer.slot key.0 in
    let found = held_found g h old timer.slot key.0 stands key.1 in
    let is_for : IsFor ((state g h).rows i) process timer = record {
      row = row;
      stands = subst (λ n. row_of ((state g h).rows n) timer ≡ Some row) number
          (subst (λ (r : TimerRef). row_of ((state g h).rows old.number) r ≡ Some row) (sym held.0.named) found);
      dest = held.1;
    } in (
      ap (λ (r : TimerRef). r.wheel) held.0.named ∙ number,
      (λ x. subst (λ (w : Seen). IsHeld (slice_index_or w.wheels i x) timer) has.is (subst (λ (p : Part). IsHeld p timer) (part_at before b d i old has low lent x) held.0)),
      subst (λ (w : Seen). IsFor ((state w.settings w.history).rows i) process timer) has.is is_for,
    )
held_at before b d i process old None has low lent none =
    let g : Settings = settings_of d in
    let h : List Entry = front_of b.pass in
    let below : i < g.schedulers = schedulers_at has i low in
    let stands : WheelStands g h old = subst (WheelStands g h) (sym lent) (has.fit.stand.wheels.stand i old below refl) in
    let number : old.number ≡ i = ap (λ (x : Part). x.number) lent ∙ has.fit.stand.wheels.named i old below in
    subst (λ (w : Seen). IsSwept (state w.settings w.history) i process) has.is (subst (λ n. IsSwept (state g h) n process) number (part_swept g h process old stands none))

-- a part that is put back as it was
pub same_set : (ws : List Part) (i : ℕ) (old new : Part) → old ≡ slice_index_or ws i old → new ≡ old → slice_set ws i new ≡ ws
same_set ws i old new lent same = ap (slice_set ws i) (same ∙ lent) ∙ set-get_or ws i old

-- a part has a chain for each process
pub owners_high : (before : Seen) (b : Inside) (d : Desk) (i process : ℕ) (old : Part) → Has before b d → i < before.settings.schedulers
    → process < before.settings.processes → old ≡ slice_index_or b.wheels.items i old → process < old.processes
owners_high before b d i process old has low in_range lent =
    let g : Settings = settings_of d in
    let stands : WheelStands g (front_of b.pass) old =
    subst (WheelStands g (front_of b.pass)) (sym lent) (has.fit.stand.wheels.stand i old (schedulers_at has i low) refl) in
    subst (λ n. process < n) (sym stands.holds.processes) (processes_at has process in_range)
