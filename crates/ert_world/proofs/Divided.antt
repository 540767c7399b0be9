-- Which entries are a world's own.

use Rattle.std.proofs.Common.{◌≡◌, ◌<◌, Bool, true, false, not, ◌&&◌, nat_lt, [], ◌∷◌, refl, sym, ap, subst, arith, lt-ltb, ltb-true}
use Rattle.ert_defs.specs.declared.entry.Actor.{Actor, TheVariants.Caller}
use Rattle.ert_world.specs.{Laws.{LawOfNoSeats, LawOfSeats}, Ways.has_seat}

none_seated : (a : Actor) → has_seat 1 a ≡ false
none_seated (Caller n) = at (nat_lt 0 n) (nat_lt n 1) refl refl
  where
    at : (b c : Bool) → nat_lt 0 n ≡ b → nat_lt n 1 ≡ c → (b && c) ≡ false
    at true true some few =
        let low : 0 < n = ltb-true 0 n some in
        let high : n < 1 = ltb-true n 1 few in
        absurd (omega (arith, low, high))
    at true false some few = refl
    at false c some few = refl
none_seated a = refl

pub none_given : LawOfNoSeats
none_given [] = refl
none_given (e ∷ m) = rw (none_seated e.by) (ap (λ l. e ∷ l) (none_given m))

pub given_away : LawOfSeats
given_away next n e some below by =
    let both : has_seat next (Caller n) ≡ true = rw (lt-ltb 0 n some, lt-ltb n next below) refl in
    ap not (subst (λ (a : Actor). has_seat next a ≡ true) (sym by) both)
