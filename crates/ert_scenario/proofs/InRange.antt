-- The tested ops of a list are in range, and so are those of its parts.

use Rattle.std.proofs.Common.{◌≡◌, ◌≤◌, ◌<◌, ℕ, List, [], ◌∷◌, ◌++◌, length, Bool, true, false, ◌&&◌, Ok, Err, ltb, leb, arith, refl}
use Rattle.std.proofs.lemmas.Bool.{and_parts, Decides.nat_tests}
use Rattle.ert_defs.specs.declared.settings.Settings.{Settings}
use Rattle.ert_ops.specs.{Ranges.{IsOpInRange, AreOpsInRange}, declared.op.Op.Op, declared.op.Op.TheVariants.{Tick, Check, Finalize, Notify, Start, SendAfter, Cancel, CancelQuiet, Read, CancelAsync, ReadAsync, Serve, Advance, Deliver}}
use Rattle.ert_ops.specs.{declared.op.Op.TheVariants.{Turn, Receive, Exit, Alive, Monitor, Demonitor}}
use Rattle.ert_scenario.specs.{Kinds.{FoundOrFault, if_in_range}, Labels.{started_label, is_new, with_label, tested}, Ranges.{is_label, is_sched, is_process, is_started, is_op}, Scenarios.with_callers, Walks.ops_of}
use Rattle.ert_scenario.proofs.Checked.{Decides-reading}

-- ---- the test of an op, and what it tests

label_low : (label : ℕ) → is_label label ≡ true → label ≤ 999999
label_low label h = grind (arith, nat_tests)

below : (n count : ℕ) → ltb n count ≡ true → n < count
below n count h = grind (arith, nat_tests)

monitor_low : (n : ℕ) → leb n 4294967295 ≡ true → n ≤ 4294967295
monitor_low n h = grind (arith, nat_tests)

started : (g : Settings) (label wheel dest : ℕ) → is_started g label wheel dest ≡ true → (label ≤ 999999) × (wheel < g.schedulers) × (dest < g.processes)
started g label wheel dest h =
    let first = and_parts (is_label label) _ h in
    let then = and_parts (is_sched g wheel) (is_process g dest) first.1 in
    (label_low label first.0, below wheel g.schedulers then.0, below dest g.processes then.1)

asked : (g : Settings) (label process : ℕ) → (is_label label && is_process g process) ≡ true → (label ≤ 999999) × (process < g.processes)
asked g label process h =
    let parts = and_parts (is_label label) (is_process g process) h in
    (label_low label parts.0, below process g.processes parts.1)

pub in_range_tested : (g : Settings) (op : Op) → is_op g op ≡ true → IsOpInRange g op
unfolding is_op
in_range_tested g (Tick mono sys) h = (Decides-reading (record { mono = mono; sys = sys })).0 h
in_range_tested g (Check mono sys) h = (Decides-reading (record { mono = mono; sys = sys })).0 h
in_range_tested g (Finalize mono sys) h = (Decides-reading (record { mono = mono; sys = sys })).0 h
in_range_tested g (Notify process) h = below process g.processes h
in_range_tested g (Start label wheel when dest msg) h = started g label wheel dest h
in_range_tested g (SendAfter label wheel when dest msg) h = started g label wheel dest h
in_range_tested g (Cancel label) h = label_low label h
in_range_tested g (CancelQuiet label) h = label_low label h
in_range_tested g (Read label) h = label_low label h
in_range_tested g (CancelAsync label process info) h = asked g label process h
in_range_tested g (ReadAsync label process info) h = asked g label process h
in_range_tested g (Serve sched) h = below sched g.schedulers h
in_range_tested g (Advance sched) h = below sched g.schedulers h
in_range_tested g (Deliver sched) h = below sched g.schedulers h
in_range_tested g (Turn sched) h = below sched g.schedulers h
in_range_tested g (Receive process) h = below process g.processes h
in_range_tested g (Exit process) h = below process g.processes h
in_range_tested g (Alive process) h = below process g.processes h
in_range_tested g (Monitor process) h = below process g.processes h
in_range_tested g (Demonitor process monitor) h =
    let parts = and_parts (is_process g process) (leb monitor 4294967295) h in
    (below process g.processes parts.0, monitor_low monitor parts.1)
in_range_tested g _ h = tt

-- ---- all ops

with_one : (g : Settings) (fits : Bool) (op : Op) (rest : List (FoundOrFault Op)) → (fits ≡ true → IsOpInRange g op) → AreOpsInRange g (ops_of rest)
    → AreOpsInRange g (ops_of (if_in_range fits op ∷ rest))
unfolding if_in_range
with_one g true op rest one others = (one refl, others)
with_one g false op rest one others = others

pub ops_in_range : (g : Settings) (labels : List ℕ) (raws : List (FoundOrFault Op)) → AreOpsInRange g (ops_of (tested g labels raws))
ops_in_range g labels [] = tt
ops_in_range g labels (Ok op ∷ raws) =
    with_one g (is_op g op && is_new labels (started_label op)) op (tested g (with_label labels (started_label op)) raws)
    (λ h. in_range_tested g op (and_parts (is_op g op) (is_new labels (started_label op)) h).0)
    (ops_in_range g (with_label labels (started_label op)) raws)
ops_in_range g labels (Err fault ∷ raws) = ops_in_range g labels raws

pub length-ops_of : (founds : List (FoundOrFault Op)) → length (ops_of founds) ≤ length founds
length-ops_of [] = omega arith
length-ops_of (Ok op ∷ rest) = let h : length (ops_of rest) ≤ length rest = length-ops_of rest in omega arith
length-ops_of (Err fault ∷ rest) = let h : length (ops_of rest) ≤ length rest = length-ops_of rest in omega arith

-- ---- parts of a list

-- the number of callers changes no range
pub still_in_range : (g : Settings) (n : ℕ) (op : Op) → IsOpInRange g op → IsOpInRange (with_callers n g) op
still_in_range g n (Tick mono sys) h = h
still_in_range g n _ h = h

pub all_in_range : (g : Settings) (n : ℕ) (ops : List Op) → AreOpsInRange g ops → AreOpsInRange (with_callers n g) ops
all_in_range g n [] h = tt
all_in_range g n (op ∷ ops) h = (still_in_range g n op h.0, all_in_range g n ops h.1)

pub range_front : (g : Settings) (a b : List Op) → AreOpsInRange g (a ++ b) → AreOpsInRange g a
range_front g [] b h = tt
range_front g (op ∷ a) b h = (h.0, range_front g a b h.1)

pub range_back : (g : Settings) (a b : List Op) → AreOpsInRange g (a ++ b) → AreOpsInRange g b
range_back g [] b h = h
range_back g (op ∷ a) b h = range_back g a b h.1
