-- A world that has just been opened: each part stands for the empty history.

use Rattle.std.proofs.Common.{◌≡◌, ◌≢◌, ℕ, ◌+◌, ◌<◌, Bool, true, false, List, [], ◌∷◌, ◌++◌, slice_index_or, Some, None, refl, sym, ap, subst, ◌∙◌, arith, length-append, eqb-true, eq-eqb}
use Rattle.std.specs.Prelude.{nat_eq}
use Rattle.std.proofs.lemmas.List.{get_or_push, get_or_append_left}
use Rattle.ert_clock.specs.Shown.{Shown, ClockStands}
use Rattle.ert_defs.specs.{Settings.IsChecked, declared.settings.Settings.Settings}
use Rattle.ert_table.specs.{Desks.{settings_of, front_of}, declared.desk.Desk.Desk, declared.desk.Pass.Pass}
use Rattle.ert_timers.specs.Parts.{Part, held_row}
use Rattle.ert_world.specs.{Openings.{AreNew, IsNewWheel, IsOpened}, Worlds.{seen, AreTidy}}

-- one more part
pub new_more : {X : Type 0} (is_new : ℕ → X → Type 0) (n : ℕ) (xs : List X) (x : X) → AreNew is_new n xs → is_new n x → AreNew is_new (n + 1) (xs ++ x ∷ [])
new_more is_new n xs x are one = record {
  counted = length-append xs (x ∷ []) ∙ ap (λ k. k + 1) are.counted;
  each = λ i d low. by_place i d low (nat_eq i n) refl;
}
  where
    below : {i n : ℕ} → i < n + 1 → i ≢ n → i < n
    below {i} {n} low other = omega (arith, low, other)

    by_place : (i : ℕ) (d : _) → i < n + 1 → (b : Bool) → nat_eq i n ≡ b → is_new i (slice_index_or (xs ++ x ∷ []) i d)
    by_place i d low true is =
        let at : i ≡ n = eqb-true i n is in
        subst (is_new i) (sym (get_or_push xs x d i (are.counted ∙ sym at))) (subst (λ k. is_new k x) (sym at) one)
    by_place i d low false is =
        let other : i ≢ n = λ (at : i ≡ n). let clash : true ≡ false = sym (eq-eqb i n at) ∙ is in cc in
        let within : i < n = below low other in
        subst (is_new i) (sym (get_or_append_left xs (x ∷ []) d i (rw are.counted within))) (are.each i d within)

-- the desk that it has is shared
pub opened : (g : Settings) (d e : Desk) (p : Pass) (keeper : Shown) (wheels : List Part) → IsChecked g → e ≡ d → settings_of d ≡ g
    → front_of p ≡ [] → ClockStands g [] keeper → IsOpened g (seen e p 1 keeper wheels None)
opened g d e p keeper wheels checked same settings front stands = record {
  stands = record { settings = ap settings_of same ∙ settings; history = front; checked = checked; clock = stands };
  next = refl;
  turns = refl;
}

-- no wheel holds a row
pub new_tidy : (g : Settings) (d e : Desk) (p : Pass) (wheels : List Part) → e ≡ d → settings_of d ≡ g → front_of p ≡ []
    → AreNew (IsNewWheel g) g.schedulers wheels → AreTidy (settings_of e) (front_of p) wheels
new_tidy g d e p wheels same settings front new =
    subst (λ s. AreTidy s (front_of p) wheels) (sym (ap settings_of same ∙ settings))
    (subst (λ h. AreTidy g h wheels) (sym front) (λ i x low k key is.
    let row : None ≡ Some (held_row (slice_index_or wheels i x).number (slice_index_or wheels i x).slots k key) =
    (new.each i x low).stands.holds.rows.each k key is in
    absurd cc))
