-- The place at which an entry stands in a piece of a history.

use Rattle.std.proofs.Common.{◌≡◌, Bool, true, false, List, [], ◌∷◌, ◌++◌, filter, refl, ap, ◌∙◌}
use Rattle.ert_defs.specs.declared.entry.Entry.{Entry}

-- a place in a list at which something stands, with what passes a test before it and behind it
pub record Place {X : Type 0} (test : X → Bool) (m before : List X) (x : X) (behind : List X) : Type 0 where
  pub first : List X
  pub last : List X
  pub parted : m ≡ first ++ (x ∷ last)
  pub first_is : filter test first ≡ before
  pub last_is : filter test last ≡ behind

pub place : {X : Type 0} (test : X → Bool) (m before : List X) (x : X) (behind : List X) → filter test m ≡ before ++ (x ∷ behind)
    → Place test m before x behind
place test [] [] x behind is = absurd cc
place test [] (z ∷ before) x behind is = absurd cc
place {X} test (y ∷ m) before x behind is = at (test y) refl before is (λ before rest. place test m before x behind rest)
  where
    at : (b : Bool) → test y ≡ b → (before : List X) → filter test (y ∷ m) ≡ before ++ (x ∷ behind)
        → ((before : List X) → filter test m ≡ before ++ (x ∷ behind) → Place test m before x behind) → Place test (y ∷ m) before x behind
    at true passes [] is more =
        let list : y ∷ filter test m ≡ x ∷ behind = rw passes at is in
        let same : y ≡ x = cc in
        record { first = []; last = m; parted = ap (λ z. z ∷ m) same; first_is = refl; last_is = cc }
    at true passes (z ∷ before) is more =
        let list : y ∷ filter test m ≡ z ∷ (before ++ (x ∷ behind)) = rw passes at is in
        let same : y ≡ z = cc in
        let spot = more before cc in
        record {
          first = y ∷ spot.first;
          last = spot.last;
          parted = ap (λ l. y ∷ l) spot.parted;
          first_is = rw passes (ap (λ l. y ∷ l) spot.first_is ∙ ap (λ v. v ∷ before) same);
          last_is = spot.last_is;
        }
    at false fails before is more =
        let rest : filter test m ≡ before ++ (x ∷ behind) = rw fails at is in
        let spot = more before rest in
        record {
          first = y ∷ spot.first;
          last = spot.last;
          parted = ap (λ l. y ∷ l) spot.parted;
          first_is = rw fails spot.first_is;
          last_is = spot.last_is;
        }

-- an entry stands in a piece
pub record StandsAt (m : List Entry) (e : Entry) : Type 0 where
  pub before : List Entry
  pub behind : List Entry
  pub is : m ≡ before ++ (e ∷ behind)

-- so does one of those that pass a test
pub stands_in : (q : Entry → Bool) (m es more : List Entry) (e : Entry) → filter q m ≡ es ++ (e ∷ more) → StandsAt m e
stands_in q m es more e is =
    let spot = place q m es e more is in
    record { before = spot.first; behind = spot.last; is = spot.parted }
