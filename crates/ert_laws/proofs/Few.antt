-- The expired timers of a scheduler have slots that differ, so there are at most as many as slots.

use Rattle.std.proofs.Common.{◌≡◌, ◌≢◌, ℕ, ◌<◌, ◌≤◌, true, nat_eq, List, [], ◌∷◌, length, map, All, AllPairs, get_or, sym, ap, ◌∙◌, subst, arith, eqb-true}
use Rattle.std.proofs.lemmas.{Bool.Decides.Decides-eqb, List.{get_or-map, length-map}, List.Elements.All-map, List.Folds.Any-from_list_any, Map.Made.IsDistinct-from_AllPairs, Map.Steps.length-le_from_distinct_below}
use Rattle.std.specs.List.{list_any}
use Rattle.ert_defs.specs.{Laws.{IsExpired, AreExpired}, States.{State, state}, Timers.{Row, timer_at}}
use Rattle.ert_defs.proofs.ExpiredLists.{expired_timers}
use Rattle.ert_laws.specs.Ranges.{LawOfFew}
use Rattle.ert_laws.proofs.RowRanges.{expired_placed}

abbrev slot_of : Row → ℕ
slot_of row = row.timer.slot

-- two expired timers of one slot are one
same_slot : (s : State) (w : ℕ) (a b : Row) → IsExpired s w a → IsExpired s w b → a.timer.slot ≡ b.timer.slot → a.timer ≡ b.timer
same_slot s w a b x y same =
    let last : a.timer.generation ≡ b.timer.generation = x.last ∙ (ap (λ k. s.last w k) same ∙ sym y.last) in
    ap (λ v. timer_at v a.timer.slot a.timer.generation) (x.wheel ∙ sym y.wheel)
    ∙ (ap (λ k. timer_at b.timer.wheel k a.timer.generation) same ∙ ap (λ n. timer_at b.timer.wheel b.timer.slot n) last)

slots_differ : (s : State) (w : ℕ) (expired : List Row) → AreExpired s w expired → AllPairs (λ x y. x ≢ y) (map slot_of expired)
slots_differ s w [] h i j d less lt = absurd (omega arith)
slots_differ s w (r ∷ rows) h i j d less lt =
    let expired : List Row = r ∷ rows in
    let in_j : j < length expired = omega (arith, length-map expired slot_of) in
    let in_i : i < length expired = omega arith in
    λ same. h.once i j r less in_j
    (same_slot s w (get_or expired i r) (get_or expired j r) (h.each i r in_i) (h.each j r in_j)
    (sym (get_or-map slot_of expired i r d in_i) ∙ (same ∙ get_or-map slot_of expired j r d in_j)))

few_slots : (s : State) (w n : ℕ) (expired : List Row) → AreExpired s w expired → All (λ (row : Row). row.timer.slot < n) expired → length expired ≤ n
few_slots s w n expired h below =
    let slots : List ℕ = map slot_of expired in
    let all : All (λ x. x < n) slots = All-map (λ x. x < n) slot_of expired below in
    let each : (q : ℕ) → list_any (nat_eq q) slots ≡ true → q < n = λ q is.
    let found = Any-from_list_any (nat_eq q) slots is in
    let here : get_or slots found.0 found.1 < n = all found.0 found.1 found.2 in
    omega (arith, here, found.3, eqb-true q found.1 found.4) in
    let distinct = IsDistinct-from_AllPairs Decides-eqb slots (slots_differ s w expired h) in
    subst (λ m. m ≤ n) (length-map expired slot_of) (length-le_from_distinct_below slots n distinct each)

pub expired_few : LawOfFew
expired_few g h w legal =
    few_slots (state g h) w g.slots ((state g h).scheds w).expired (expired_timers g h w legal)
    (λ k d lt. (expired_placed g h w legal k d lt).place.slot_high)
