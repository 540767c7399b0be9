-- The tests of ops one after another: over labels as a list, and over a flag for each label.

use Rattle.std.proofs.Common.{◌≡◌, ◌≢◌, ◌+◌, ◌<◌, ℕ, suc, List, [], ◌∷◌, ◌++◌, length, get_or, set, replicate, Bool, true, false, not, ◌&&◌, ◌||◌, Option, Some, None, Ok, Err, leb, eqb, cond, sym, ap, subst, ◌∙◌, refl, arith, length-set, get_or-set_same, get_or-set_other, ⊎_elim}
use Rattle.std.proofs.lemmas.{List.{length-replicate, get_or-replicate, append-nil}, Bool.{and_parts, cases_eq}, Bool.Decides.nat_tests}
use Rattle.std.specs.Option.{option_or}
use Rattle.ert_defs.specs.declared.settings.Settings.{Settings}
use Rattle.ert_ops.specs.declared.op.Op.{Op, TheVariants.{Start, SendAfter}}
use Rattle.ert_scenario.specs.{Kinds.{FoundOrFault, if_in_range}, Labels.{started_label, has, is_new, with_label, tested, AreUnset, is_free, with_flag, first_out}, Ranges.{is_op, is_label}, Walks.{first_shape, first_range, ops_of}}
use Rattle.ert_scenario.specs.{Walked.{without_fault, IsOver}}
use Rattle.ert_scenario.specs.declared.fault.Fault.TheVariants as faults

pub are_free : (count : ℕ) (taken : List Bool) → taken ≡ replicate count false → AreUnset count taken
are_free count taken e = record {
  many = ap length e ∙ length-replicate count false;
  free = λ label h. ap (λ (t : List Bool). get_or t label true) e ∙ get_or-replicate count label false true h;
}

-- the flags that are set are those of the labels
pub record StandsFor (taken : List Bool) (labels : List ℕ) : Type 0 where
  pub many : length taken ≡ 1000000
  pub same : (label : ℕ) → label < 1000000 → get_or taken label true ≡ has labels label

none_stand : (taken : List Bool) → AreUnset 1000000 taken → StandsFor taken []
none_stand taken free = record { many = free.many; same = free.free }

-- an op in range has a label that has a flag
abbrev IsFlagged : Option ℕ → Type 0
IsFlagged o = (label : ℕ) → o ≡ Some label → label < 1000000

label_low : (label : ℕ) (others : Bool) → (is_label label && others) ≡ true → label < 1000000
label_low label others h = let low : leb label 999999 ≡ true = (and_parts (is_label label) others h).0 in grind (arith, nat_tests)

flagged : (g : Settings) (op : Op) → is_op g op ≡ true → IsFlagged (started_label op)
unfolding is_op started_label
flagged g (Start l wheel when dest msg) h label e = let same : l ≡ label = cc in subst (λ n. n < 1000000) same (label_low l _ h)
flagged g (SendAfter l wheel when dest msg) h label e = let same : l ≡ label = cc in subst (λ n. n < 1000000) same (label_low l _ h)
flagged g _ h label e = absurd (cc)

same_test : (taken : List Bool) (labels : List ℕ) (o : Option ℕ) → StandsFor taken labels → IsFlagged o → is_free taken o ≡ is_new labels o
same_test taken labels None stands low = refl
same_test taken labels (Some label) stands low = ap not (stands.same label (low label refl))

when_same : (t b : Bool) → t ≡ true → true ≡ (t || b)
when_same true b e = refl
when_same false b e = absurd (cc)

when_other : (t b : Bool) → t ≡ false → b ≡ (t || b)
when_other true b e = absurd (cc)
when_other false b e = refl

set_flag : (taken : List Bool) (labels : List ℕ) (label other : ℕ) → StandsFor taken labels → label < 1000000 → other < 1000000
    → get_or (set taken label true) other true ≡ has (label ∷ labels) other
set_flag taken labels label other stands low below =
    ⊎_elim
    (λ (e : other ≡ label).
    let here : get_or (set taken label true) label true ≡ true = get_or-set_same taken label true true (omega (arith, stands.many)) in
    let is : eqb other label ≡ true = grind (arith, nat_tests) in
    ap (λ n. get_or (set taken label true) n true) e ∙ here ∙ when_same (eqb other label) (has labels other) is)
    (λ (ne : other ≢ label).
    let is : eqb other label ≡ false = grind (arith, nat_tests) in
    get_or-set_other taken label other true true ne ∙ stands.same other below ∙ when_other (eqb other label) (has labels other) is)
    (cases_eq other label)

still_stand : (taken : List Bool) (labels : List ℕ) (o : Option ℕ) → StandsFor taken labels → IsFlagged o → StandsFor (with_flag taken o) (with_label labels o)
still_stand taken labels None stands low = stands
still_stand taken labels (Some label) stands low = record {
  many = length-set taken label true ∙ stands.many;
  same = λ other below. set_flag taken labels label other stands (low label refl) below;
}

-- ---- the first range fault

first_step : (fits free new : Bool) → (fits ≡ true → free ≡ new) → (op : Op) (rest : List (FoundOrFault Op)) (k : ℕ) (later last : Option ℕ)
    → (fits ≡ true → first_range (k + 1) rest ≡ option_or later last)
    → first_range k (if_in_range (fits && new) op ∷ rest) ≡ option_or (cond (fits && free) later (Some k)) last
unfolding if_in_range
first_step false free new same op rest k later last next = refl
first_step true free true same op rest k later last next = let is : free ≡ true = same refl in rw is (next refl)
first_step true free false same op rest k later last next = let is : free ≡ false = same refl in rw is refl

-- after ops without a fault, the tail decides
first_tail : (g : Settings) (ops : List Op) (taken : List Bool) (labels : List ℕ) (k : ℕ) (tail : List (FoundOrFault Op)) (last : ℕ → Option ℕ) → StandsFor taken labels
    → ((ls : List ℕ) (j : ℕ) → first_range j (tested g ls tail) ≡ last j)
    → first_range k (tested g labels (without_fault ops ++ tail)) ≡ option_or (first_out g taken k ops) (last (k + length ops))
first_tail g [] taken labels k tail last stands ends = let e : k ≡ k + 0 = omega arith in ends labels k ∙ ap last e
first_tail g (op ∷ ops) taken labels k tail last stands ends =
    let low : is_op g op ≡ true → IsFlagged (started_label op) = flagged g op in
    let e : (k + 1) + length ops ≡ k + length (op ∷ ops) = omega arith in
    first_step (is_op g op) (is_free taken (started_label op)) (is_new labels (started_label op)) (λ fits. same_test taken labels (started_label op) stands (low fits))
    op (tested g (with_label labels (started_label op)) (without_fault ops ++ tail)) k
    (first_out g (with_flag taken (started_label op)) (k + 1) ops) (last (k + length (op ∷ ops)))
    (λ fits.
    first_tail g ops (with_flag taken (started_label op)) (with_label labels (started_label op)) (k + 1) tail last
    (still_stand taken labels (started_label op) stands (low fits)) ends
    ∙ ap (λ n. option_or (first_out g (with_flag taken (started_label op)) (k + 1) ops) (last n)) e)

-- what the walk and the test of its ops find is the first range fault of all
pub first_of_all : (g : Settings) (taken : List Bool) (ops : List Op) (range : Option ℕ) (all : List (FoundOrFault Op)) → AreUnset 1000000 taken → IsOver ops range all
    → option_or (first_out g taken 1 ops) range ≡ first_range 1 (tested g [] all)
first_of_all g taken ops None all free over =
    let whole : without_fault ops ++ [] ≡ all = append-nil (without_fault ops) ∙ sym (over.faultless refl) in
    sym (subst (λ (xs : List (FoundOrFault Op)). first_range 1 (tested g [] xs) ≡ option_or (first_out g taken 1 ops) None) whole
    (first_tail g ops taken [] 1 [] (λ j. None) (none_stand taken free) (λ ls j. refl)))
first_of_all g taken ops (Some place) all free over =
    let cut = over.faulty place refl in
    let is : 1 + length ops ≡ place = sym cut.2 in
    sym (subst (λ (xs : List (FoundOrFault Op)). first_range 1 (tested g [] xs) ≡ option_or (first_out g taken 1 ops) (Some place)) (sym cut.1)
    (subst (λ n. first_range 1 (tested g [] (without_fault ops ++ Err faults.Range ∷ cut.0)) ≡ option_or (first_out g taken 1 ops) (Some n)) is
    (first_tail g ops taken [] 1 (Err faults.Range ∷ cut.0) (λ j. Some j) (none_stand taken free) (λ ls j. refl))))

-- ---- shapes, and the ops

shape_step : (fits : Bool) (op : Op) (rest : List (FoundOrFault Op)) (k : ℕ) → first_shape k (if_in_range fits op ∷ rest) ≡ first_shape (k + 1) rest
unfolding if_in_range
shape_step true op rest k = refl
shape_step false op rest k = refl

-- a test changes no shape
pub first_shape-tested : (g : Settings) (labels : List ℕ) (raws : List (FoundOrFault Op)) (k : ℕ) → first_shape k (tested g labels raws) ≡ first_shape k raws
first_shape-tested g labels [] k = refl
first_shape-tested g labels (Ok op ∷ raws) k =
    shape_step (is_op g op && is_new labels (started_label op)) op (tested g (with_label labels (started_label op)) raws) k ∙ first_shape-tested g (with_label labels (started_label op)) raws (k + 1)
first_shape-tested g labels (Err faults.Shape ∷ raws) k = refl
first_shape-tested g labels (Err faults.Range ∷ raws) k = first_shape-tested g labels raws (k + 1)

pub length-tested : (g : Settings) (labels : List ℕ) (raws : List (FoundOrFault Op)) → length (tested g labels raws) ≡ length raws
length-tested g labels [] = refl
length-tested g labels (Ok op ∷ raws) = ap suc (length-tested g (with_label labels (started_label op)) raws)
length-tested g labels (Err fault ∷ raws) = ap suc (length-tested g labels raws)

ops_step : (fits : Bool) (op : Op) (rest : List (FoundOrFault Op)) (ops : List Op) (k : ℕ) → first_range k (if_in_range fits op ∷ rest) ≡ None
    → (first_range (k + 1) rest ≡ None → ops_of rest ≡ ops) → ops_of (if_in_range fits op ∷ rest) ≡ op ∷ ops
unfolding if_in_range
ops_step true op rest ops k h later = ap (λ (xs : List Op). op ∷ xs) (later h)
ops_step false op rest ops k h later = absurd (cc)

ops_kept : (g : Settings) (labels : List ℕ) (ops : List Op) (k : ℕ) → first_range k (tested g labels (without_fault ops)) ≡ None → ops_of (tested g labels (without_fault ops)) ≡ ops
ops_kept g labels [] k h = refl
ops_kept g labels (op ∷ ops) k h =
    ops_step (is_op g op && is_new labels (started_label op)) op (tested g (with_label labels (started_label op)) (without_fault ops)) ops k h
    (ops_kept g (with_label labels (started_label op)) ops (k + 1))

cut_step : (fits : Bool) (op : Op) (rest : List (FoundOrFault Op)) (k : ℕ) → (first_range (k + 1) rest ≡ None → ⊥) → first_range k (if_in_range fits op ∷ rest) ≡ None → ⊥
unfolding if_in_range
cut_step true op rest k later h = later h
cut_step false op rest k later h = cc

cut_has_fault : (g : Settings) (labels : List ℕ) (ops : List Op) (later : List (FoundOrFault Op)) (k : ℕ)
    → first_range k (tested g labels (without_fault ops ++ Err faults.Range ∷ later)) ≡ None → ⊥
cut_has_fault g labels [] later k h = cc
cut_has_fault g labels (op ∷ ops) later k h =
    cut_step (is_op g op && is_new labels (started_label op)) op (tested g (with_label labels (started_label op)) (without_fault ops ++ Err faults.Range ∷ later)) k
    (cut_has_fault g (with_label labels (started_label op)) ops later (k + 1)) h

-- where there is no range fault, the walk has met none
pub whole_walk : (g : Settings) (ops : List Op) (range : Option ℕ) (all : List (FoundOrFault Op)) → IsOver ops range all → first_range 1 (tested g [] all) ≡ None → all ≡ without_fault ops
whole_walk g ops None all over h = over.faultless refl
whole_walk g ops (Some place) all over h =
    let cut = over.faulty place refl in
    absurd (cut_has_fault g [] ops cut.0 1 (subst (λ (xs : List (FoundOrFault Op)). first_range 1 (tested g [] xs) ≡ None) cut.1 h))
