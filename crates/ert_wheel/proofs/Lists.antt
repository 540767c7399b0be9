-- Rows of different slots are at most as many as slots.

use Rattle.std.proofs.Common.{◌≡◌, ℕ, ◌+◌, ◌<◌, ◌≤◌, Bool, true, false, ◌&&◌, cond, nat_eq, eqb, List, Option, Some, None, [], ◌∷◌, length, map, sym, ap, inl, inr, refl, arith}
use Rattle.std.proofs.lemmas.{Bool.{eqb-true, or_cases}, Bool.Decides.eqb_tells, List.length-map, List.Elements.{All-head, All-tail}, List.Sums.sum_by-cons, Map.Steps.length-le_from_distinct_below}
use Rattle.std.specs.List.{IsDistinct, AllByRecursion, list_any}
use Rattle.ert_wheel.proofs.Looking.{key_low}
use Rattle.ert_wheel.specs.{Rows.{key_in, key_of, times, passing}, Walks.AreRows, declared.row.Key.Key, declared.row.Row.Row}

-- the first of a list counts before the others
pub times-cons : (row : Row) (rows : List Row) (j : ℕ) → times j (row ∷ rows) ≡ cond (nat_eq row.slot j) 1 0 + times j rows
times-cons row rows j = sum_by-cons (λ (r : Row). cond (nat_eq r.slot j) 1 0) row rows

-- where a slot stands not at all, no row has it
none_equal : (slot : ℕ) (rows : List Row) → times slot rows ≡ 0
    → AllByRecursion (λ y. eqb slot y ≡ false) (map (λ row. row.slot) rows)
none_equal slot [] h = tt
none_equal slot (row ∷ rows) h =
    elim (eqb_tells row.slot slot) [
      | inl (t, e) ↦
          let one : ◌≡◌ {A = ℕ} (cond (nat_eq row.slot slot) 1 0) 1 = ap (λ b. cond b 1 0) t in
          absurd (omega (arith, times-cons row rows slot))
      | inr (f, ne) ↦
          let none : ◌≡◌ {A = ℕ} (cond (nat_eq row.slot slot) 1 0) 0 = ap (λ b. cond b 1 0) f in (
            elim (eqb_tells slot row.slot) [ inl (t, e) ↦ absurd (ne (sym e)) | inr (g, n) ↦ g ],
            none_equal slot rows (omega (arith, times-cons row rows slot)),
          )
    ]

-- where each slot stands at most once, the slots are different
distinct : (rows : List Row) → ((j : ℕ) → times j rows ≤ 1) → IsDistinct eqb (map (λ row. row.slot) rows)
unfolding IsDistinct
distinct [] once = tt
distinct (row ∷ rows) once =
    let one : ◌≡◌ {A = ℕ} (cond (nat_eq row.slot row.slot) 1 0) 1 =
    elim (eqb_tells row.slot row.slot) [ inl (t, e) ↦ ap (λ b. cond b 1 0) t | inr (f, ne) ↦ absurd (ne refl) ] in (
      none_equal row.slot rows (omega (arith, times-cons row rows row.slot, once row.slot)),
      distinct rows (λ j. omega (arith, times-cons row rows j, once j)),
    )

-- the slots of a wheel's rows are slots of the wheel
slots_low : (keys : List (Option Key)) (rows : List Row) → AreRows keys rows → (q : ℕ)
    → list_any (eqb q) (map (λ row. row.slot) rows) ≡ true → q < length keys
slots_low keys [] are q h = cc
slots_low keys (row ∷ rows) are q h =
    elim (or_cases (eqb q row.slot) (list_any (eqb q) (map (λ row. row.slot) rows)) h) [
      | inl e ↦
          let low : row.slot < length keys =
          key_low keys row.slot (key_of row) (All-head (λ row. key_in keys row.slot ≡ Some (key_of row)) row rows are) in
          omega (arith, eqb-true q row.slot e)
      | inr more ↦ slots_low keys rows (All-tail (λ row. key_in keys row.slot ≡ Some (key_of row)) row rows are) q more
    ]

pub few_rows : (keys : List (Option Key)) (rows : List Row) → AreRows keys rows → ((j : ℕ) → times j rows ≤ 1)
    → length rows ≤ length keys
few_rows keys rows are once =
    let few : length (map (λ (row : Row). row.slot) rows) ≤ length keys =
    length-le_from_distinct_below (map (λ row. row.slot) rows) (length keys) (distinct rows once) (slots_low keys rows are) in
    omega (arith, length-map rows (λ (row : Row). row.slot))

-- a stronger test passes less often
pub passing_both : (a b : Key → Bool) (o : Option Key) → passing (λ key. a key && b key) o ≤ passing a o
passing_both a b None = omega arith
passing_both a b (Some key) =
    elim (a key) as (λ c. cond (c && b key) 1 0 ≤ cond c 1 0)
    [ true ↦ elim (b key) as (λ c. cond c 1 0 ≤ 1) [ true ↦ omega arith | false ↦ omega arith ] | false ↦ omega arith ]
