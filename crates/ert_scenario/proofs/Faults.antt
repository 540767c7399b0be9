-- The range faults of ops, by index.

use Rattle.std.proofs.Common.{◌≡◌, ◌<◌, ◌≤◌, ◌⊎◌, inl, inr, ℕ, zero, suc, List, [], ◌∷◌, Bool, true, false, not, ◌&&◌, ◌||◌, Option, Some, None, Ok, Err, ltb, leb, eqb, sym, ap, subst, ◌∙◌, refl, arith, true≢false}
use Rattle.std.proofs.lemmas.Bool.Decides.{nat_tests}
use Rattle.serde_json.specs.Data.{Data}
use Rattle.ert_defs.specs.declared.settings.Settings.{Settings}
use Rattle.ert_ops.specs.{Ranges.IsOpInRange, declared.op.Op.Op, declared.op.Op.TheVariants.{Tick, Check, Finalize, Notify, Time, System, Offset, Info, Convert, Start, SendAfter, Cancel, CancelQuiet, Read, CancelAsync, ReadAsync, Serve}}
use Rattle.ert_ops.specs.{declared.op.Op.TheVariants.{Advance, Deliver, Turn, Receive, Exit, Alive, Monitor, Demonitor}}
use Rattle.ert_scenario.specs.{Fields.{top_of, format_of}, Labels.{started_label, has, is_new, with_label, tested}, Places.{fault_of, fault_in, op_founds, founds_in, HasRangeFault, raw_at, settings_in, GivesRawOps, IsStartAt}}
use Rattle.ert_scenario.specs.{Ranges.{is_label, is_process, is_started, is_op}, Lists.{OpValues, lists_found}, Walks.{all_raws, founds_of}, declared.fields.Top.Top}
use Rattle.ert_scenario.specs.Kinds.{FoundOrFault, ◌>>=◌, if_in_range}
use Rattle.ert_scenario.specs.declared.fault.Fault.TheVariants as faults
use Rattle.ert_scenario.proofs.{Checked.Decides-reading, InRange.in_range_tested}

-- ---- an op in range passes the test

low_test : (label : ℕ) → label ≤ 999999 → is_label label ≡ true
low_test label h = grind (arith, nat_tests)

below_test : (n count : ℕ) → n < count → ltb n count ≡ true
below_test n count h = grind (arith, nat_tests)

monitor_test : (n : ℕ) → n ≤ 4294967295 → leb n 4294967295 ≡ true
monitor_test n h = grind (arith, nat_tests)

both_true : (a b : Bool) → a ≡ true → b ≡ true → (a && b) ≡ true
both_true true b e f = f
both_true false b e f = e

started_test : (g : Settings) (label wheel dest : ℕ) → (label ≤ 999999) × (wheel < g.schedulers) × (dest < g.processes) → is_started g label wheel dest ≡ true
started_test g label wheel dest h =
    both_true _ _ (low_test label h.0) (both_true _ _ (below_test wheel g.schedulers h.1) (below_test dest g.processes h.2))

asked_test : (g : Settings) (label process : ℕ) → (label ≤ 999999) × (process < g.processes) → (is_label label && is_process g process) ≡ true
asked_test g label process h = both_true _ _ (low_test label h.0) (below_test process g.processes h.1)

passes_test : (g : Settings) (op : Op) → IsOpInRange g op → is_op g op ≡ true
unfolding is_op
passes_test g (Tick mono sys) h = (Decides-reading (record { mono = mono; sys = sys })).1 h
passes_test g (Check mono sys) h = (Decides-reading (record { mono = mono; sys = sys })).1 h
passes_test g (Finalize mono sys) h = (Decides-reading (record { mono = mono; sys = sys })).1 h
passes_test g (Notify process) h = below_test process g.processes h
passes_test g Time h = refl
passes_test g System h = refl
passes_test g Offset h = refl
passes_test g Info h = refl
passes_test g (Convert time from to) h = refl
passes_test g (Start label wheel when dest msg) h = started_test g label wheel dest h
passes_test g (SendAfter label wheel when dest msg) h = started_test g label wheel dest h
passes_test g (Cancel label) h = low_test label h
passes_test g (CancelQuiet label) h = low_test label h
passes_test g (Read label) h = low_test label h
passes_test g (CancelAsync label process info) h = asked_test g label process h
passes_test g (ReadAsync label process info) h = asked_test g label process h
passes_test g (Serve sched) h = below_test sched g.schedulers h
passes_test g (Advance sched) h = below_test sched g.schedulers h
passes_test g (Deliver sched) h = below_test sched g.schedulers h
passes_test g (Turn sched) h = below_test sched g.schedulers h
passes_test g (Receive process) h = below_test process g.processes h
passes_test g (Exit process) h = below_test process g.processes h
passes_test g (Alive process) h = below_test process g.processes h
passes_test g (Monitor process) h = below_test process g.processes h
passes_test g (Demonitor process monitor) h = both_true _ _ (below_test process g.processes h.0) (monitor_test monitor h.1)

-- ---- the labels before an index

-- the labels of the starts before an index, and those given
abbrev labels_before : List ℕ → List (FoundOrFault Op) → ℕ → List ℕ
labels_before labels [] i = labels
labels_before labels (raw ∷ raws) zero = labels
labels_before labels (Ok op ∷ raws) (suc i) = labels_before (with_label labels (started_label op)) raws i
labels_before labels (Err fault ∷ raws) (suc i) = labels_before labels raws i

-- the fault at an index, where the op was read
at_tested : (g : Settings) (labels : List ℕ) (raws : List (FoundOrFault Op)) (i : ℕ) (op : Op) → raw_at raws i ≡ Some (Ok op)
    → fault_in (tested g labels raws) i ≡ fault_of (if_in_range (is_op g op && is_new (labels_before labels raws i) (started_label op)) op)
at_tested g labels [] i op h = absurd (cc)
at_tested g labels (Ok first ∷ raws) zero op h = let same : first ≡ op = cc in ap (λ o. fault_of (if_in_range (is_op g o && is_new labels (started_label o)) o)) same
at_tested g labels (Err fault ∷ raws) zero op h = absurd (cc)
at_tested g labels (Ok first ∷ raws) (suc i) op h = at_tested g (with_label labels (started_label first)) raws i op h
at_tested g labels (Err fault ∷ raws) (suc i) op h = at_tested g labels raws i op h

has_first : (labels : List ℕ) (label : ℕ) → has (label ∷ labels) label ≡ true
has_first labels label = let is : eqb label label ≡ true = grind (arith, nat_tests) in rw is refl

has_other : (labels : List ℕ) (one label : ℕ) → has labels label ≡ true → has (one ∷ labels) label ≡ true
has_other labels one label h = or_right (eqb label one) (has labels label) h
  where
    or_right : (a b : Bool) → b ≡ true → (a || b) ≡ true
    or_right true b e = refl
    or_right false b e = e

has_with : (labels : List ℕ) (o : Option ℕ) (label : ℕ) → has labels label ≡ true → has (with_label labels o) label ≡ true
has_with labels None label h = h
has_with labels (Some one) label h = has_other labels one label h

-- labels given stay
has_given : (labels : List ℕ) (raws : List (FoundOrFault Op)) (i label : ℕ) → has labels label ≡ true → has (labels_before labels raws i) label ≡ true
has_given labels [] i label h = h
has_given labels (raw ∷ raws) zero label h = h
has_given labels (Ok op ∷ raws) (suc i) label h = has_given (with_label labels (started_label op)) raws i label (has_with labels (started_label op) label h)
has_given labels (Err fault ∷ raws) (suc i) label h = has_given labels raws i label h

-- and that of an earlier start is there
has_earlier : (labels : List ℕ) (raws : List (FoundOrFault Op)) (i j label : ℕ) (op : Op) → j < i → raw_at raws j ≡ Some (Ok op) → started_label op ≡ Some label
    → has (labels_before labels raws i) label ≡ true
has_earlier labels [] i j label op low here is = absurd (cc)
has_earlier labels (raw ∷ raws) zero j label op low here is = absurd (omega arith)
has_earlier labels (Ok first ∷ raws) (suc i) zero label op low here is =
    let same : first ≡ op = cc in
    let named : started_label first ≡ Some label = ap started_label same ∙ is in
    has_given (with_label labels (started_label first)) raws i label (subst (λ (o : Option ℕ). has (with_label labels o) label ≡ true) (sym named) (has_first labels label))
has_earlier labels (Err fault ∷ raws) (suc i) zero label op low here is = absurd (cc)
has_earlier labels (Ok first ∷ raws) (suc i) (suc j) label op low here is = has_earlier (with_label labels (started_label first)) raws i j label op (omega arith) here is
has_earlier labels (Err fault ∷ raws) (suc i) (suc j) label op low here is = has_earlier labels raws i j label op (omega arith) here is

same_label : (a b : ℕ) → eqb a b ≡ true → b ≡ a
same_label a b h = grind (arith, nat_tests)

or_parts : (a b : Bool) → (a || b) ≡ true → (a ≡ true) ⊎ (b ≡ true)
or_parts true b h = inl refl
or_parts false b h = inr h

with_has : (labels : List ℕ) (o : Option ℕ) (label : ℕ) → has (with_label labels o) label ≡ true → (o ≡ Some label) ⊎ (has labels label ≡ true)
with_has labels None label h = inr h
with_has labels (Some one) label h =
    elim (or_parts (eqb label one) (has labels label) h) [ inl e ↦ inl (ap Some (same_label label one e)) | inr later ↦ inr later ]

later_start : (raw : FoundOrFault Op) (raws : List (FoundOrFault Op)) (j label : ℕ) → IsStartAt raws j label → IsStartAt (raw ∷ raws) (suc j) label
later_start raw raws j label s = record { op = s.op; here = s.here; has = s.has }

first_start : (op : Op) (raws : List (FoundOrFault Op)) (label : ℕ) → started_label op ≡ Some label → IsStartAt (Ok op ∷ raws) 0 label
first_start op raws label h = record { op = op; here = refl; has = h }

-- a label before an index is given, or that of an earlier start
has_from : (labels : List ℕ) (raws : List (FoundOrFault Op)) (i label : ℕ) → has (labels_before labels raws i) label ≡ true → (has labels label ≡ true → ⊥)
    → ((j : ℕ) → j < i → IsStartAt raws j label → ⊥) → ⊥
has_from labels [] i label h given none = given h
has_from labels (raw ∷ raws) zero label h given none = given h
has_from labels (Ok op ∷ raws) (suc i) label h given none =
    has_from (with_label labels (started_label op)) raws i label h
    (λ w. elim (with_has labels (started_label op) label w) [ inl e ↦ none 0 (omega arith) (first_start op raws label e) | inr old ↦ given old ])
    (λ j low s. none (suc j) (omega arith) (later_start (Ok op) raws j label s))
has_from labels (Err fault ∷ raws) (suc i) label h given none =
    has_from labels raws i label h given (λ j low s. none (suc j) (omega arith) (later_start (Err fault) raws j label s))

-- ---- the laws

founds_read : (lists : FoundOrFault OpValues) (found : FoundOrFault Top) (g : Settings) (make : OpValues → List (FoundOrFault Op)) (raws : List (FoundOrFault Op)) → settings_in found ≡ Ok g
    → (lists >>= (λ l. Ok (make l))) ≡ Ok raws → founds_in (lists >>= (λ l. Ok (founds_of found (make l)))) ≡ tested g [] raws
founds_read (Ok l) (Ok top) g make raws opens h =
    let same : make l ≡ raws = cc in
    let ours : top.settings ≡ g = cc in
    ap (λ (s : Settings). tested s [] (make l)) ours ∙ ap (tested g []) same
founds_read (Ok l) (Err fault) g make raws opens h = absurd (cc)
founds_read (Err fault) found g make raws opens h = absurd (cc)

-- the fault at a place, where the op was read
fault_at : (race : Bool) (d : Data) (g : Settings) (raws : List (FoundOrFault Op)) (i : ℕ) (op : Op) → GivesRawOps race d g raws → raw_at raws i ≡ Some (Ok op)
    → fault_in (founds_in (op_founds race d)) i ≡ fault_of (if_in_range (is_op g op && is_new (labels_before [] raws i) (started_label op)) op)
fault_at race d g raws i op read here =
    ap (λ (xs : List (FoundOrFault Op)). fault_in xs i) (founds_read (lists_found race d) (top_of race d) g (all_raws (format_of d)) raws read.opens read.ops)
    ∙ at_tested g [] raws i op here

fails_left : (a b : Bool) (op : Op) → (a ≡ true → ⊥) → fault_of (if_in_range (a && b) op) ≡ Some faults.Range
unfolding if_in_range
fails_left true b op h = absurd (h refl)
fails_left false b op h = refl

fails_right : (a b : Bool) (op : Op) → b ≡ false → fault_of (if_in_range (a && b) op) ≡ Some faults.Range
unfolding if_in_range
fails_right true true op h = absurd (true≢false h)
fails_right true false op h = refl
fails_right false b op h = refl

no_fault : (a b : Bool) (op : Op) → a ≡ true → b ≡ true → fault_of (if_in_range (a && b) op) ≡ Some faults.Range → ⊥
unfolding if_in_range
no_fault true true op e f h = cc
no_fault true false op e f h = true≢false (sym f)
no_fault false b op e f h = true≢false (sym e)

pub out_of_range : (race : Bool) (d : Data) (g : Settings) (raws : List (FoundOrFault Op)) (i : ℕ) (op : Op) → GivesRawOps race d g raws → raw_at raws i ≡ Some (Ok op) → (IsOpInRange g op → ⊥)
    → HasRangeFault race d (suc i)
out_of_range race d g raws i op read here not =
    fault_at race d g raws i op read here ∙ fails_left (is_op g op) (is_new (labels_before [] raws i) (started_label op)) op (λ h. not (in_range_tested g op h))

pub label_again : (race : Bool) (d : Data) (g : Settings) (raws : List (FoundOrFault Op)) (i j label : ℕ) → GivesRawOps race d g raws → j < i → IsStartAt raws j label → IsStartAt raws i label
    → HasRangeFault race d (suc i)
label_again race d g raws i j label read low earlier later =
    let taken : has (labels_before [] raws i) label ≡ true = has_earlier [] raws i j label earlier.op low earlier.here earlier.has in
    let old : is_new (labels_before [] raws i) (started_label later.op) ≡ false = ap (is_new (labels_before [] raws i)) later.has ∙ ap not taken in
    fault_at race d g raws i later.op read later.here ∙ fails_right (is_op g later.op) (is_new (labels_before [] raws i) (started_label later.op)) later.op old

new_unless : (labels : List ℕ) (o : Option ℕ) → ((label : ℕ) → o ≡ Some label → has labels label ≡ true → ⊥) → is_new labels o ≡ true
new_unless labels None h = refl
new_unless labels (Some label) h = unless (has labels label) (h label refl)
  where
    unless : (b : Bool) → (b ≡ true → ⊥) → not b ≡ true
    unless true h = absurd (h refl)
    unless false h = refl

pub no_other : (race : Bool) (d : Data) (g : Settings) (raws : List (FoundOrFault Op)) (i : ℕ) (op : Op) → GivesRawOps race d g raws → raw_at raws i ≡ Some (Ok op) → IsOpInRange g op
    → ((j label : ℕ) → j < i → IsStartAt raws j label → IsStartAt raws i label → ⊥) → HasRangeFault race d (suc i) → ⊥
no_other race d g raws i op read here fits none h =
    let new : is_new (labels_before [] raws i) (started_label op) ≡ true =
    new_unless (labels_before [] raws i) (started_label op)
    (λ label e taken. has_from [] raws i label taken (λ f. true≢false (sym f)) (λ j low s. none j label low s (record { op = op; here = here; has = e }))) in
    no_fault (is_op g op) (is_new (labels_before [] raws i) (started_label op)) op (passes_test g op fits) new (sym (fault_at race d g raws i op read here) ∙ h)
