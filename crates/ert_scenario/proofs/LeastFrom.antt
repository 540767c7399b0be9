-- The first fault of a list that begins at place k.

use Rattle.std.proofs.Common.{◌≡◌, ◌+◌, ◌<◌, ℕ, zero, suc, List, [], ◌∷◌, Some, None, Ok, Err, arith, refl}
use Rattle.ert_scenario.specs.{Kinds.FoundOrFault, Places.{fault_of, fault_in}, Walks.{first_shape, first_range}, declared.fault.Fault.Fault}
use Rattle.ert_scenario.specs.declared.fault.Fault.TheVariants as faults
use Rattle.ert_ops.specs.declared.op.Op.{Op}

-- the first index with the fault, at this place
pub record LeastFrom (k place : ℕ) (fault : Fault) (founds : List (FoundOrFault Op)) : Type 0 where
  pub index : ℕ
  pub at : place ≡ k + index
  pub here : fault_in founds index ≡ Some fault
  pub least : (i : ℕ) → i < index → fault_in founds i ≡ Some fault → ⊥

abbrev pub Lacks : Fault → List (FoundOrFault Op) → Type 0
Lacks fault founds = (i : ℕ) → fault_in founds i ≡ Some fault → ⊥

lacks_one : (fault : Fault) (found : FoundOrFault Op) (rest : List (FoundOrFault Op)) → (fault_of found ≡ Some fault → ⊥) → Lacks fault rest → Lacks fault (found ∷ rest)
lacks_one fault found rest not others zero h = not h
lacks_one fault found rest not others (suc i) h = others i h

below_one : (fault : Fault) (found : FoundOrFault Op) (rest : List (FoundOrFault Op)) (index : ℕ) → (fault_of found ≡ Some fault → ⊥)
    → ((i : ℕ) → i < index → fault_in rest i ≡ Some fault → ⊥) → (i : ℕ) → i < suc index → fault_in (found ∷ rest) i ≡ Some fault → ⊥
below_one fault found rest index not others zero low h = not h
below_one fault found rest index not others (suc i) low h = others i (omega arith) h

later : (k place : ℕ) (fault : Fault) (found : FoundOrFault Op) (rest : List (FoundOrFault Op)) → (fault_of found ≡ Some fault → ⊥)
    → LeastFrom (k + 1) place fault rest → LeastFrom k place fault (found ∷ rest)
later k place fault found rest not h = record {
  index = suc h.index;
  at = let e : place ≡ (k + 1) + h.index = h.at in omega arith;
  here = h.here;
  least = below_one fault found rest h.index not h.least;
}

first : (k place : ℕ) (fault : Fault) (rest : List (FoundOrFault Op)) → k ≡ place → LeastFrom k place fault (Err fault ∷ rest)
first k place fault rest e = record {
  index = 0;
  at = omega arith;
  here = refl;
  least = λ i low h. absurd (omega arith);
}

pub shape_from : (k place : ℕ) (founds : List (FoundOrFault Op)) → first_shape k founds ≡ Some place → LeastFrom k place faults.Shape founds
shape_from k place [] h = absurd (cc)
shape_from k place (Ok op ∷ rest) h = later k place faults.Shape (Ok op) rest (λ no. cc) (shape_from (k + 1) place rest h)
shape_from k place (Err faults.Shape ∷ rest) h = first k place faults.Shape rest (cc)
shape_from k place (Err faults.Range ∷ rest) h = later k place faults.Shape (Err faults.Range) rest (λ no. cc) (shape_from (k + 1) place rest h)

pub lacks_shape : (k : ℕ) (founds : List (FoundOrFault Op)) → first_shape k founds ≡ None → Lacks faults.Shape founds
lacks_shape k [] h = λ i no. cc
lacks_shape k (Ok op ∷ rest) h = lacks_one faults.Shape (Ok op) rest (λ no. cc) (lacks_shape (k + 1) rest h)
lacks_shape k (Err faults.Shape ∷ rest) h = absurd (cc)
lacks_shape k (Err faults.Range ∷ rest) h = lacks_one faults.Shape (Err faults.Range) rest (λ no. cc) (lacks_shape (k + 1) rest h)

pub range_from : (k place : ℕ) (founds : List (FoundOrFault Op)) → Lacks faults.Shape founds → first_range k founds ≡ Some place → LeastFrom k place faults.Range founds
range_from k place [] lacks h = absurd (cc)
range_from k place (Ok op ∷ rest) lacks h =
    later k place faults.Range (Ok op) rest (λ no. cc) (range_from (k + 1) place rest (λ i. lacks (suc i)) h)
range_from k place (Err faults.Shape ∷ rest) lacks h = absurd (lacks 0 refl)
range_from k place (Err faults.Range ∷ rest) lacks h = first k place faults.Range rest (cc)

pub lacks_range : (k : ℕ) (founds : List (FoundOrFault Op)) → first_range k founds ≡ None → Lacks faults.Range founds
lacks_range k [] h = λ i no. cc
lacks_range k (Ok op ∷ rest) h = lacks_one faults.Range (Ok op) rest (λ no. cc) (lacks_range (k + 1) rest h)
lacks_range k (Err fault ∷ rest) h = absurd (cc)
