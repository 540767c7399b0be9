-- The first due row, and how time comes to its deadline.

use Rattle.std.proofs.Common.{Bool, true, ap, ◌∙◌, ◌≡◌, ℕ, ◌^◌, ◌<◌, ◌≤◌, false, max, List, Option, Some, None, MatchOption, sym, subst, inl, inr, arith}
use Rattle.std.proofs.lemmas.Bool.{cases_eq, cases_lt, Decides.nat_tests}
use Rattle.std.specs.Option.{is_some}
use Rattle.std.specs.Prelude.{MatchBool}
use Rattle.ert_wheel.proofs.{Near.{due_here, time_is}, Looking.key_low, Standing.end_after, Times.lowest, Views.place_is}
use Rattle.ert_wheel.specs.{FirstDue.{NoRowDue, IsFirstRowDue, IsFirstDueAt, IsFirstTold, IsPast, IsReached, MayBeDue, NoneDueIn, IsOldestDue, SomeRowDue}, Levels.bucket_of_window, NextDue.NoneBefore, Rings.{Rings, Place, AreChains}}
use Rattle.ert_wheel.specs.{Rings.{StandsIn, Finds}, Rows.{key_in, key_of, row_at, row_told, comes_before}, Walks.StandOnLevels, Wheels.{held_keys, stand_on, place_of, places, InOrder}, declared.row.FirstDue.FirstDue}
use Rattle.ert_wheel.specs.{declared.row.FirstDue.TheVariants.{Row as First, Nothing, Moving}, declared.row.HeldRow.HeldRow, declared.row.Key.Key, declared.row.Row.Row}

-- a row that is later, or as late and was put in later, doesn't come before another
not_before : (x y : Row) → y.deadline ≤ x.deadline → (x.deadline ≡ y.deadline → y.order ≤ x.order) → comes_before x y ≡ false
not_before x y late order =
    elim (cases_eq x.deadline y.deadline) [
      | inl e ↦ let more : y.order ≤ x.order = order e in grind (arith, nat_tests)
      | inr ne ↦ let more : y.deadline < x.deadline = omega (arith, ne) in grind (arith, nat_tests)
    ]

-- what is told of the bucket of the next time is told of all
module _ {next : ℕ} {keys : List (Option Key)} {chains : Rings} {levels : Key → ℕ} (stand : StandOnLevels next chains keys levels)
    (in_order : InOrder next keys stand.rank) (time : ℕ) (none : NoneBefore keys time) where
  -- the oldest row that is due at a time before which none is, is the first of all
  first_found : (row : Row) → IsOldestDue keys (stand_on next levels stand.time stand.rank) (bucket_of_window 0 next) time row → IsFirstRowDue keys time row
  first_found row o = record {
    held = o.held;
    due = o.due;
    first = λ slot key has.
        let t : max row.deadline next ≡ next =
        time_is stand row.slot (key_of row) next o.held (omega arith)
        (omega (arith, end_after 0 next (omega arith) stand.fits, lowest next)) o.at_home in
        let here : time ≤ row.deadline = none row.slot (key_of row) o.held in
        not_before (row_at slot key) row (omega (arith, none slot key has, o.due)) (λ e.
        let there = due_here stand slot key has (omega (arith, e, t)) in
        let oldest = o.oldest slot key has there (omega (arith, e, o.due)) in
        elim (cases_lt key.order row.order) [
          | inl older ↦
              absurd (omega (
                arith,
                oldest,
                in_order slot row.slot key (key_of row) has o.held (omega (arith, e, t)) (omega (arith, t)) older,
              ))
          | inr newer ↦ newer
        ]);
  }

  -- where it has none that is due by a time up to the next, there is none
  first_none : NoneDueIn keys (stand_on next levels stand.time stand.rank) (bucket_of_window 0 next) time → time ≤ next → NoRowDue keys time
  first_none empty on = λ slot key has.
      elim (cases_lt time key.deadline) [
        | inl later ↦ later
        | inr due ↦ empty slot key has (due_here stand slot key has (omega (arith, due, on)))
      ]

  first_told : (answer : Option HeldRow)
      → MatchOption answer (NoneDueIn keys (stand_on next levels stand.time stand.rank) (bucket_of_window 0 next) time)
      (λ row. IsOldestDue keys (stand_on next levels stand.time stand.rank) (bucket_of_window 0 next) time (row_told keys row))
      → MatchOption answer (time ≤ next → NoRowDue keys time) (λ row. IsFirstRowDue keys time (row_told keys row))
  first_told None told = first_none told
  first_told (Some row) told = first_found (row_told keys row) told

  -- where the keys are known by what is stored
  pub sees_first : {bucket : ℕ} (answer : Option HeldRow) (lent : List Key) → held_keys chains lent ≡ keys → bucket ≡ bucket_of_window 0 next
      → ((spot : Key → Place) → AreChains chains (places spot (held_keys chains lent))
      → MatchOption answer (NoneDueIn (held_keys chains lent) spot bucket time)
      (λ row. IsOldestDue (held_keys chains lent) spot bucket time (row_told (held_keys chains lent) row)))
      → MatchOption answer (time ≤ next → NoRowDue keys time) (λ row. IsFirstRowDue keys time (row_told keys row))
  sees_first {bucket = bucket} answer lent is at looks =
      first_told answer
      (subst (λ (b : ℕ). MatchOption answer (NoneDueIn keys (stand_on next levels stand.time stand.rank) b time) (λ row. IsOldestDue keys (stand_on next levels stand.time stand.rank) b time (row_told keys row))) at
      (subst (λ (ks : List (Option Key)). MatchOption answer (NoneDueIn ks (stand_on next levels stand.time stand.rank) bucket time) (λ row. IsOldestDue ks (stand_on next levels stand.time stand.rank) bucket time (row_told ks row))) is
      (looks (stand_on next levels stand.time stand.rank) (subst (λ (ks : List (Option Key)). AreChains chains (places (stand_on next levels stand.time stand.rank) ks)) (sym is) stand.are))))

-- where it has come no further than the time, some row is due
not_past : (keys : List (Option Key)) (stands : List (Option ℕ)) (passed to stop : ℕ) → IsReached keys stands passed to stop → stop ≤ to → NoRowDue keys stop → ⊥
not_past keys stands passed to stop r by none =
    elim (r.next.due by).near [
      | inl due ↦ omega (arith, due.at, none due.slot due.key due.has)
      | inr begins ↦ omega (arith, r.on, begins.in_window.later)
    ]

first_at_stop : (keys : List (Option Key)) (to stop : ℕ) (row : HeldRow) → stop ≤ to
    → IsFirstRowDue keys stop (row_told keys row) → IsFirstRowDue keys to (row_told keys row)
first_at_stop keys to stop row by f = record { held = f.held; due = omega (arith, by, f.due); first = f.first }

none_at_stop : (keys : List (Option Key)) (stands : List (Option ℕ)) (passed to stop : ℕ) → IsReached keys stands passed to stop → stop ≤ to
    → (stop ≤ passed → NoRowDue keys stop) → IsPast keys passed to
none_at_stop keys stands passed to stop r by none = absurd (not_past keys stands passed to stop r by (none r.on))

-- what is told of the time that time has come to is told of the time up to which it may come
pub told_at_stop : (keys : List (Option Key)) (stands : List (Option ℕ)) (passed to stop : ℕ) (told : FirstDue) → IsReached keys stands passed to stop
    → stop ≤ to → IsFirstDueAt keys passed stop told → IsFirstTold keys stands passed to told
told_at_stop keys stands passed to stop (First row) r by f = first_at_stop keys to stop row by f
told_at_stop keys stands passed to stop Nothing r by none = none_at_stop keys stands passed to stop r by none
told_at_stop keys stands passed to stop Moving r by f =
    elim (r.next.due by).near [
      | inl due ↦ inr (record { slot = due.slot; key = due.key; has = due.has; by = omega (arith, due.at, by) })
      | inr begins ↦ absurd (omega (arith, r.on, begins.in_window.later))
    ]

-- whether a row is late or due at the next time, by the newest of its bucket
pub any_due : {next : ℕ} {keys : List (Option Key)} {chains : Rings} {levels : Key → ℕ} (stand : StandOnLevels next chains keys levels) (found : Option ℕ)
    (told : Bool) {bucket : ℕ} → told ≡ is_some found → bucket ≡ bucket_of_window 0 next
    → ((places : ℕ → Option Place) → AreChains chains places → Finds chains places bucket (2 ^ 64) found)
    → MatchBool told (SomeRowDue keys next) (NoRowDue keys next)
any_due {next} {keys} {chains} {levels} stand None told {bucket} is at finds =
    let spot : Key → Place = stand_on next levels stand.time stand.rank in
    let f = finds (places spot keys) stand.are in
    subst (λ (b : Bool). MatchBool b (SomeRowDue keys next) (NoRowDue keys next)) (sym is) (λ slot key has.
    elim (cases_lt next key.deadline) [
      | inl later ↦ later
      | inr due ↦
          let p : Place = spot key in
          let there : places spot keys slot ≡ Some p = ap (place_of spot) has in
          absurd (omega (
            arith,
            f.greatest slot p (omega (arith, stand.slots, key_low keys slot key has)) there
                (due_here stand slot key has (omega (arith, due)) ∙ sym at) (stand.are.orders slot p there),
          ))
    ])
any_due {next} {keys} {chains} {levels} stand (Some slot) told {bucket} is at finds =
    let spot : Key → Place = stand_on next levels stand.time stand.rank in
    let f = finds (places spot keys) stand.are in
    let there : StandsIn (places spot keys) bucket slot = f.stands.1 in
    let k = place_is spot (key_in keys slot) there.place there.has in
    let t : max k.0.deadline next ≡ next =
    time_is stand slot k.0 next k.1 (omega arith) (omega (arith, end_after 0 next (omega arith) stand.fits, lowest next))
    (ap (λ (p : Place). p.home) k.2 ∙ there.at_home ∙ at) in
    subst (λ (b : Bool). MatchBool b (SomeRowDue keys next) (NoRowDue keys next)) (sym is)
    (record { slot = slot; key = k.0; has = k.1; by = omega (arith, t) })

-- and so by a time up to that
pub any_due_by : (keys : List (Option Key)) (stands : List (Option ℕ)) (passed to : ℕ) (told : Bool) → to ≤ passed → MatchBool told (SomeRowDue keys passed) (NoRowDue keys passed)
    → MatchBool told (MayBeDue keys stands passed to) (NoRowDue keys to)
any_due_by keys stands passed to true up due = inl (record { slot = due.slot; key = due.key; has = due.has; by = omega (arith, due.by) })
any_due_by keys stands passed to false up none = λ slot key has. omega (arith, up, none slot key has)
