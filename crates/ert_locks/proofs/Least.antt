-- The one caller that a pass holds is its caller of least number.

use Rattle.std.proofs.Common.{◌≡◌, ◌≢◌, ℕ, zero, suc, ◌<◌, ◌≤◌, Bool, true, false, List, [], ◌∷◌, Some, None, refl, sym, ap, arith, eqb-true}
use Rattle.std.proofs.lemmas.Bool.{eqb-false, ne_eqb}
use Rattle.std.specs.Prelude.{nat_eq}
use Rattle.ert_defs.specs.declared.{entry.Actor.Actor, entry.Actor.TheVariants.{Keeper, Caller}, settings.OffsetState.OffsetState, settings.OffsetState.TheVariants.{Preliminary, Final, Volatile}, settings.Settings.Settings}
use Rattle.ert_table.specs.{Published.ReadsByLeastCaller, Held.least_caller, declared.view.View.View}

abbrev pair : ℕ → List Actor
pair n = Keeper ∷ (Caller n ∷ [])

none_least : (n m : ℕ) → m ≤ n → least_caller (pair n) m ≡ None
none_least n zero low = refl
none_least n (suc m) low =
    let ne : n ≢ m = λ (e : n ≡ m). absurd (omega arith) in
    rw (none_least n m (omega arith), ne_eqb n m ne) refl

less : (n m : ℕ) → n ≢ m → n < suc m → n < m
less n m ne low = omega (arith, ne, low)

least_one : (n m : ℕ) → n < m → least_caller (pair n) m ≡ Some n
least_one n zero low = absurd (omega arith)
least_one n (suc m) low = by_test (nat_eq n m) refl (λ below. least_one n m below)
  where
    by_test : (b : Bool) → nat_eq n m ≡ b → (n < m → least_caller (pair n) m ≡ Some n) → least_caller (pair n) (suc m) ≡ Some n
    by_test true is more =
        let at : n ≡ m = eqb-true n m is in
        let none : least_caller (pair n) m ≡ None = none_least n m (omega arith) in
        rw (none, is) (ap (λ k. Some k) (sym at))
    by_test false is more =
        let ne : n ≢ m = eqb-false n m is in
        let below : n < m = less n m ne low in
        rw (more below) refl

pub reads_by : (s : OffsetState) (g : Settings) (v : View) (by : ℕ) → v.actors ≡ Keeper ∷ (Caller by ∷ []) → by < g.callers → ReadsByLeastCaller s g v by
reads_by Preliminary g v by actors low = tt
reads_by Final g v by actors low = rw actors (least_one by g.callers low)
reads_by Volatile g v by actors low = rw actors (least_one by g.callers low)
