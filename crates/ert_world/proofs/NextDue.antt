-- When the next timer of a world's wheel may be due.

use Rattle.std.proofs.Common.{◌≡◌, ℕ, ◌<◌, List, [], length, Option, Some, slice_get, slice_index_or, refl, sym, ap, subst, ◌∙◌}
use Rattle.std.proofs.lemmas.Option.{slice_get-get_or, get_or_from_slice_get}
use Rattle.std.specs.Prelude.{slice_set}
use Rattle.ert_defs.specs.States.{State, state}
use Rattle.ert_effects.specs.Sleeping.{DropsSettled, ProbesForNext}
use Rattle.ert_table.specs.{Calls.IsMade, Desks.{settings_of, view_of, front_of, Belongs}, Takes.TakesPlace, declared.desk.Desk.Desk, declared.desk.Pass.Pass}
use Rattle.ert_timers.specs.{NextDue.{NoneArmedBefore, IsNearest, IsNextHeld}, Parts.{Part, PartStands as WheelStands}, Passed.LosesRows, Sleeping.{HasLost, IsFoundNext, ProbesRows}, Tidy.IsTidy}
use Rattle.ert_wheel.specs.{Rows.key_in, declared.row.Key.Key}
use Rattle.ert_world.specs.{Worlds.{Seen, AreSound, By}, declared.world.World.TheInside.Inside}
use Rattle.ert_world.proofs.{Calls.{Has, Does, parts_in, schedulers_at, seen_at, has_at, does_at}, Probing.probed, Returned.at_place, WheelCalls.wheel_named}

-- the part is the world's, whatever stands for one that isn't there
pub part_at : (before : Seen) (b : Inside) (d : Desk) (i : ℕ) (p : Part) → Has before b d
    → i < before.settings.schedulers → p ≡ slice_index_or b.wheels.items i p
    → (e : Part) → p ≡ slice_index_or b.wheels.items i e
part_at before b d i p has low lent e =
    let is : List Part = b.wheels.items in
    let below : i < length is = subst (λ n. i < n) (sym has.fit.stand.wheels.counted) (schedulers_at has i low) in
    sym (get_or_from_slice_get is i p e (subst (λ (x : Part). slice_get is i ≡ Some x) (sym lent) (slice_get-get_or is i p below)))

-- slots of a wheel were probed until a timer was armed
pub asked : (before : Seen) (b : Inside) (d e : Desk) (q : Pass) (i : ℕ) (old new : Part) → d ≡ e → seen_at e b ≡ before → AreSound e b.pass b.next (parts_in b)
    → Belongs d q → i < before.settings.schedulers → old ≡ slice_index_or b.wheels.items i old → new.number ≡ old.number
    → WheelStands (settings_of d) (front_of q) new → LosesRows old new
    → IsMade (settings_of d) (view_of b.pass) (ProbesForNext (settings_of d) old.number) (view_of q)
    → Does before e q b.next (record (parts_in b) { wheels = slice_set b.wheels.items i new }) (λ w. By w (λ g. ProbesForNext g i))
asked before b d e q i old new same is sound belongs low lent named stands loses made =
    does_at same (probed before b d q i old new made.allowed.probes (λ n g. ProbesForNext g n) (has_at same is sound) belongs low lent named stands loses
    (subst (λ es. TakesPlace (settings_of d) (view_of b.pass) es (view_of q)) made.allowed.entries made.call)
    (subst (ProbesForNext (settings_of d) old.number (state (settings_of d) (front_of b.pass))) made.allowed.entries made.allowed))

-- each that has a row was
pub all_probed : (before : Seen) (b : Inside) (d e : Desk) (q : Pass) (i n : ℕ) (old new : Part) → d ≡ e → seen_at e b ≡ before → AreSound e b.pass b.next (parts_in b)
    → Belongs d q → i < before.settings.schedulers → old ≡ slice_index_or b.wheels.items i old → new.number ≡ old.number
    → WheelStands (settings_of d) (front_of q) new → LosesRows old new → (all : ProbesRows (settings_of d) (view_of b.pass) old new n (view_of q))
    → Does before e q b.next (record (parts_in b) { wheels = slice_set b.wheels.items i new }) (λ w. By w (λ g. DropsSettled g i n all.probes))
all_probed before b d e q i n old new same is sound belongs low lent named stands loses all =
    does_at same (probed before b d q i old new all.probes (λ m g. DropsSettled g m n all.probes) (has_at same is sound) belongs low lent named stands loses all.call
    (record { order = all.order; settled = all.settled; entries = refl }))

module _ {before : Seen} {b : Inside} {d : Desk} {i : ℕ} {old : Part} (has : Has before b d) (low : i < before.settings.schedulers)
    (lent : old ≡ slice_index_or b.wheels.items i old) (new : Part) where
  -- the wheel that was put back stands in its place
  pub is_new : (x : Part) → slice_index_or (slice_set b.wheels.items i new) i x ≡ new
  is_new x =
      at_place (λ (y : Part). y ≡ new) b.wheels.items i i new x (subst (λ n. i < n) (sym has.fit.stand.wheels.counted) (schedulers_at has i low)) (λ one. refl)
      (λ other. absurd (other refl))

  -- and the one before it was of the world
  pub was_old : (x : Part) → slice_index_or before.wheels i x ≡ old
  was_old x = ap (λ (w : Seen). slice_index_or w.wheels i x) (sym has.is) ∙ sym (part_at before b d i old has low lent x)

  pub numbered_old : old.number ≡ i
  numbered_old = wheel_named (settings_of d) (front_of b.pass) [] (parts_in b) i old has.fit.stand (schedulers_at has i low) lent

  pub held_new : (answer : Option ℕ) → IsNextHeld new answer → (x : Part) → IsNextHeld (slice_index_or (slice_set b.wheels.items i new) i x) answer
  held_new answer held x = subst (λ (y : Part). IsNextHeld y answer) (sym (is_new x)) held

  pub armed_new : (s : State) (answer : Option ℕ) → new.number ≡ old.number → NoneArmedBefore s new.number answer → NoneArmedBefore s i answer
  armed_new s answer named = subst (λ n. NoneArmedBefore s n answer) (named ∙ numbered_old)

  pub nearest_new : (s : State) (answer : Option ℕ) → new.number ≡ old.number → ((x : Part) → IsTidy s (slice_index_or (slice_set b.wheels.items i new) i x))
      → (IsTidy s new → IsNearest s new.number new.passed answer)
      → (x : Part) → IsNearest s i (slice_index_or (slice_set b.wheels.items i new) i x).passed answer
  nearest_new s answer named tidy told x =
      subst (λ (y : Part). IsNearest s i y.passed answer) (sym (is_new x))
      (subst (λ n. IsNearest s n new.passed answer) (named ∙ numbered_old) (told (subst (IsTidy s) (is_new x) (tidy x))))

  pub found_new : (s : State) (answer : Option ℕ) → IsFoundNext s old new answer
      → (x : Part) → IsFoundNext s (slice_index_or before.wheels i x) (slice_index_or (slice_set b.wheels.items i new) i x) answer
  found_new s answer found x =
      subst (λ (y : Part). IsFoundNext s y (slice_index_or (slice_set b.wheels.items i new) i x) answer) (sym (was_old x))
      (subst (λ (y : Part). IsFoundNext s old y answer) (sym (is_new x)) found)

  pub time_new : new.passed ≡ old.passed → (x : Part) → (slice_index_or (slice_set b.wheels.items i new) i x).passed ≡ (slice_index_or before.wheels i x).passed
  time_new time x = ap (λ (y : Part). y.passed) (is_new x) ∙ (time ∙ sym (ap (λ (y : Part). y.passed) (was_old x)))

  pub fewer_new : (n : ℕ) → HasLost n old new → (x : Part) → HasLost n (slice_index_or before.wheels i x) (slice_index_or (slice_set b.wheels.items i new) i x)
  fewer_new n lost x =
      subst (λ (y : Part). HasLost n y (slice_index_or (slice_set b.wheels.items i new) i x)) (sym (was_old x))
      (subst (λ (y : Part). HasLost n old y) (sym (is_new x)) lost)

  pub left_new : (P : ℕ → Type 0) → ((k : ℕ) (key : Key) → key_in new.keys k ≡ Some key → P k)
      → (x : Part) (k : ℕ) (key : Key) → key_in (slice_index_or (slice_set b.wheels.items i new) i x).keys k ≡ Some key → P k
  left_new P each x k key has_key = each k key (ap (λ (y : Part). key_in y.keys k) (sym (is_new x)) ∙ has_key)
