-- A wheel of a world holds a slot free again.

use Rattle.std.proofs.Common.{◌≡◌, ℕ, ◌<◌, List, [], append-nil, slice_index_or, refl, sym, ap, subst, ◌∙◌, arith}
use Rattle.std.specs.Prelude.{slice_set}
use Rattle.ert_defs.specs.States.{State, state}
use Rattle.ert_table.specs.{Desks.{settings_of, front_of}, declared.desk.Desk.Desk}
use Rattle.ert_timers.specs.{Parts.{Part, PartStands as WheelStands}, Changes.reused, Passed.LosesRows, Tidy.IsTidy}
use Rattle.ert_timers.proofs.{Passing.same_last, Freed.reused_keeps}
use Rattle.ert_world.proofs.{Calls.{Has, parts_in, schedulers_at}, NextDue.part_at, Returned.at_place, WheelCalls.rows_set, CancelCalls.put_back}
use Rattle.ert_world.specs.{Stepping.{Stays, turns_same}, Worlds.{Seen, seen, AreSound, KeepsRows}, declared.world.World.TheInside.Inside}
use Rattle.ert_wheel.proofs.StandsOn.{stay_all}

-- where a slot is held free again no row has come
pub loses_reused : (p q : Part) (k : ℕ) → q ≡ reused p k → LosesRows p q
loses_reused p q k is =
    subst (LosesRows p) (sym is) (record { number = refl; slots = refl; left = λ j key held. held; time = omega arith; frees = reused_keeps p (reused p k) k refl; stands = stay_all _ _ _ })

-- so a tidy part stays so where rows go
loses_tidy : (s : State) (p q : Part) → LosesRows p q → IsTidy s p → IsTidy s q
loses_tidy s p q loses tidy k key held = ap s.status (same_last p q k loses) ∙ tidy k key (loses.left k key held)

-- a world whose wheel holds a slot free again
pub record Freed (before : Seen) (b : Inside) (d : Desk) (new : List Part) : Type 0 where
  pub fit : AreSound d b.pass b.next (record (parts_in b) { wheels = new })
  pub stays : Stays before (seen d b.pass b.next b.keeper new b.list)

-- the wheel at a place holds a slot free again
pub freed : (before : Seen) (b : Inside) (d : Desk) (i : ℕ) (old new : Part) → Has before b d → i < before.settings.schedulers
    → old ≡ slice_index_or b.wheels.items i old → new.number ≡ old.number → WheelStands (settings_of d) (front_of b.pass) new
    → LosesRows old new → Freed before b d (slice_set b.wheels.items i new)
freed before b d i old new has low lent named stands loses =
    let s : State = state (settings_of d) (front_of b.pass) in
    let ws : List Part = b.wheels.items in
    let below : i < (settings_of d).schedulers = schedulers_at has i low in
    let lost = rows_set ws i old new (rw has.fit.stand.wheels.counted below) lent loses in
    record {
      fit = record {
        fit = put_back d b.pass b.next (parts_in b) i old new has.fit below lent named stands;
        tidy = λ alone j x in_range. loses_tidy s (slice_index_or ws j x) (slice_index_or (slice_set ws i new) j x) (lost j x) (has.tidy alone j x in_range);
      };
      stays = subst (λ w. Stays w (seen d b.pass b.next b.keeper (slice_set ws i new) b.list)) has.is (record {
        table = refl;
        settings = refl;
        next = refl;
        clock = refl;
        turns = turns_same b.list;
        rows = lost;
        forgotten = record { piece = []; grown = sym (append-nil (front_of b.pass)); forgotten = tt };
      });
    }

-- and its rows stay
pub keeps_reused : (p q : Part) (k : ℕ) → q ≡ reused p k → KeepsRows p q
keeps_reused p q k is = subst (KeepsRows p) (sym is) (record { keys = refl; time = refl; stands = refl })

pub kept_reused : (before : Seen) (b : Inside) (d : Desk) (i : ℕ) (old new : Part) → Has before b d → i < before.settings.schedulers
    → old ≡ slice_index_or b.wheels.items i old → KeepsRows old new
    → (j : ℕ) (x : Part) → KeepsRows (slice_index_or before.wheels j x) (slice_index_or (slice_set b.wheels.items i new) j x)
kept_reused before b d i old new has low lent kept j x =
    let ws : List Part = b.wheels.items in
    let here : KeepsRows (slice_index_or ws i x) new = subst (λ (p : Part). KeepsRows p new) (part_at before b d i old has low lent x) kept in
    subst (λ (w : Seen). KeepsRows (slice_index_or w.wheels j x) (slice_index_or (slice_set ws i new) j x)) has.is
    (at_place (λ (y : Part). KeepsRows (slice_index_or ws j x) y) ws i j new x (rw has.fit.stand.wheels.counted (schedulers_at has i low))
    (λ one. subst (λ n. KeepsRows (slice_index_or ws n x) new) (sym one) here)
    (λ other. record { keys = refl; time = refl; stands = refl }))
