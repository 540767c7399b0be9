-- How `live` ends, by what the readings made and whether it was written.

use Rattle.std.proofs.Common.{◌≡◌, ◌<◌, ◌⊎◌, ℕ, List, [], ◌∷◌, ◌++◌, length, Option, None, Some, inl, inr, sym, subst, ◌∙◌, arith}
use Rattle.ert_defs.specs.{Readings.IsValid, declared.settings.Reading.Reading}
use Rattle.ert_io.specs.{Faults.Rose, Known.{StreamTold, before}, Told.took}
use Rattle.ert_program.specs.{Lives.{AreValid, LiveRefused, Watched, LiveEnds}, Streams.{ClockStream, Output}, declared.ending.Ended.Ended, declared.ending.EndStatus.TheVariants.{Done, NoMemory}}

-- a reading that stands among the first of valid ones is valid
among : (taken readings later rest : List Reading) (bad : Reading) → (taken ++ bad ∷ []) ++ rest ≡ readings ++ later → length taken < length readings
    → AreValid readings → IsValid bad
among taken [] later rest bad same below all = absurd (omega arith)
among [] (r ∷ readings) later rest bad same below all = let is : r ≡ bad = cc in subst IsValid is all.0
among (x ∷ taken) (r ∷ readings) later rest bad same below all =
    let others : (taken ++ bad ∷ []) ++ rest ≡ readings ++ later = cc in
    among taken readings later rest bad others (omega arith) all.1

-- so no reading of valid ones is refused
none_among : (left : Option (List Reading)) (taken readings later : List Reading) (bad : Reading)
    → before (taken ++ bad ∷ []) left ≡ Some (readings ++ later) → length taken < length readings → AreValid readings → IsValid bad
none_among None taken readings later bad told below all = let none : None ≡ Some (readings ++ later) = told in absurd cc
none_among (Some rest) taken readings later bad told below all =
    let both : Some ((taken ++ bad ∷ []) ++ rest) ≡ Some (readings ++ later) = told in
    let same : (taken ++ bad ∷ []) ++ rest ≡ readings ++ later = cc in
    among taken readings later rest bad same below all

none_refused : (n : ℕ) (old new : StreamTold Reading) (text : List ℕ) (readings later : List Reading) → LiveRefused n old new text
    → old.left ≡ Some (readings ++ later) → length readings ≡ n → AreValid readings → ⊥
none_refused n old new text readings later refused told many all =
    let fewer = refused.count in
    refused.not_valid (none_among new.left refused.readings readings later refused.bad (sym refused.given.left ∙ told) (omega arith) all)

completes : (n : ℕ) (c d : ClockStream) (e : Ended) (text : List ℕ) → Watched n c d e text → (Rose c.faults d.faults → ⊥) → (readings later : List Reading)
    → c.told.left ≡ Some (readings ++ later) → length readings ≡ n → AreValid readings → (e.status ≡ Done) ⊎ (e.status ≡ NoMemory)
completes n c d e text made sound readings later told many all =
    elim made.only [
      | inl done ↦ inl done
      | inr other ↦ elim other [
        | inl refused ↦ absurd (none_refused n c.told d.told text readings later (made.refused refused) told many all)
        | inr failed ↦ absurd (sound (made.clock_fault failed).0)
      ]
    ]

-- the text was written
pub written : (n : ℕ) (c d : ClockStream) (o p : Output) (e : Ended) (text : List ℕ) → Watched n c d e text → p.told ≡ took o.told text → LiveEnds n c d o p e
written n c d o p e text made writes = record {
  done = λ how. (text, writes, made.done how);
  no_desk = made.no_desk;
  refused = λ how. (text, writes, made.refused how);
  clock_fault = λ how. ((made.clock_fault how).0, (text, writes, (made.clock_fault how).1));
  write_fault = λ how. elim made.only [
    | inl done ↦ cc
    | inr other ↦ elim other [ inl refused ↦ cc | inr failed ↦ cc ]
  ];
  no_memory = λ how. elim made.only [
    | inl done ↦ cc
    | inr other ↦ elim other [ inl refused ↦ cc | inr failed ↦ cc ]
  ];
  only = elim made.only [
    | inl done ↦ inl done
    | inr other ↦ elim other [ inl refused ↦ inr (inl refused) | inr failed ↦ inr (inr (inl failed)) ]
  ];
  complete = λ sound whole readings later told many all. completes n c d e text made sound readings later told many all;
}
