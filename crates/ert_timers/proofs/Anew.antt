-- A timer is started in the place of one that was settled: as if the row of that had gone before.

use Rattle.std.proofs.Common.{◌≡◌, ◌≢◌, ℕ, zero, suc, ◌+◌, false, List, [], ◌∷◌, Option, Some, None, refl, sym, ap, ◌∙◌, set, get_or-set_same}
use Rattle.ert_defs.specs.{States.state, Timers.is_taken, declared.entry.Entry.Entry, declared.settings.Settings.Settings, declared.timer.Start.Start, declared.timer.Status.TheVariants.Armed, declared.timer.TimerRef.TimerRef}
use Rattle.ert_timers.proofs.{Fit.some_key, Later.live_unexpired, Forgotten.stands_dropped, Standing.takes_none}
use Rattle.ert_timers.specs.{Changes.{MayBecomeFree, dropped, kept, slot_for}, Freeing.IsLast, Parts.{Part, PartStands, last_timer, slot_at}, Restarting.CanRenew, declared.part.Use.Use}
use Rattle.ert_wheel.proofs.Looking.{key_low}
use Rattle.ert_wheel.specs.{Rows.key_in, declared.row.Key.Key}

-- a place of a list that is written twice
pub set_twice : {X : Type 0} (xs : List X) (k : ℕ) (x y : X) → set (set xs k x) k y ≡ set xs k y
set_twice [] k x y = refl
set_twice (z ∷ xs) zero x y = refl
set_twice (z ∷ xs) (suc k) x y = ap (λ (l : List _). z ∷ l) (set_twice xs k x y)

-- so it is the same for a timer that is put in whether the row before it had gone
pub kept_again : (p : Part) (k : ℕ) (start : Start) (next : Use) (stands : List (Option ℕ))
    → kept p k start next stands ≡ kept (dropped p k) k start next stands
kept_again p k start next stands =
    ap (λ (keys : List (Option Key)). let q : Part = record p {
      slots = set p.slots k (slot_for next (slot_at p.slots k).above start);
      keys = keys;
      arms = p.arms + 1;
      stands = stands;
    } in q) (sym (set_twice p.keys k None (Some (record { deadline = next.deadline; order = p.arms }))))

-- without its row the slot is free
pub free_again : (p : Part) (k : ℕ) → CanRenew p k → MayBecomeFree (dropped p k) k
free_again p k can =
    let has = some_key (key_in p.keys k) can.held in
    record { low = can.low; vacant = get_or-set_same p.keys k None None (key_low p.keys k has.0 has.1); away = can.away }

-- the part stands without that row
pub stands_again : (g : Settings) (h : List Entry) (p : Part) (timer : TimerRef) → PartStands g h p → IsLast p timer → CanRenew p timer.slot
    → (state g h).status timer ≢ Some Armed → PartStands g h (dropped p timer.slot)
stands_again g h p timer stands last can settled =
    let k : ℕ = timer.slot in
    let has = some_key (key_in p.keys k) can.held in
    stands_dropped g h p k has.0 stands has.1 (λ armed. settled (ap (state g h).status last.named ∙ armed))

-- its timer takes the slot no more
pub untaken : (g : Settings) (h : List Entry) (p : Part) (timer : TimerRef) → PartStands g h p → IsLast p timer → CanRenew p timer.slot
    → (state g h).status timer ≢ Some Armed → is_taken ((state g h).status (last_timer p.number p.slots timer.slot)) ≡ false
untaken g h p timer stands last can settled =
    let k : ℕ = timer.slot in
    let has = some_key (key_in p.keys k) can.held in
    takes_none ((state g h).status (last_timer p.number p.slots k)) (λ armed. settled (ap (state g h).status last.named ∙ armed))
    (live_unexpired ((state g h).status (last_timer p.number p.slots k)) (stands.holds.rows.live k has.0 has.1))
