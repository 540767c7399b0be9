-- The ops of a migrated value are those of the value.

use Rattle.std.proofs.Common.{◌≡◌, ℕ, List, [], ◌∷◌, ◌++◌, map, Bool, true, false, ◌||◌, Option, Some, None, option_map, Ok, Err, Vec, Global, cond, codes, bytes_eq, sym, subst, ap, ◌∙◌, refl, true≢false}
use Rattle.std.proofs.lemmas.Slice.Eq.{bytes_eq-Decides}
use Rattle.serde_json.specs.{Data.{Data, null, boolean, number, string, array, object}, View.{view, items_of, items_view}, declared.value.Value.{Value, Array}}
use Rattle.serde_json.proofs.Views.{view-Array}
use Rattle.ert_ops.specs.{declared.op.Op.Op, declared.op.Op.TheVariants.{CancelAsync, ReadAsync}, Races.Race}
use Rattle.ert_scenario.specs.Kinds.{FoundOrFault, ◌>>=◌, read_both, of_kind, integer, word, boolean as boolean_of, two_words, list_of, listed, items_in, text, end}
use Rattle.ert_scenario.specs.{Migration.{is_ask, migrated_items, migrated_op, each, migrated_list}, Rows.{keeper_rows, shared_rows, sched_rows, clock_rows, process_rows, timer_rows, request_args, rows_of_one, rows_of_two, caller_groups}}
use Rattle.ert_scenario.specs.{Rows.{groups_of, row_in, or_next, op_named, op_from, op_of}, Walked.without_fault, Walks.{raws_of, caller_raws, race_raws, all_raws, ops_of}, Lists.{RaceValues, OpValues}, Scenarios.planned_race}
use Rattle.ert_scenario.specs.{declared.doer.ListDoer.ListDoer, declared.doer.ListDoer.TheVariants.{Everyone, Keeper, Caller}, declared.format.Format.TheVariants.{One, Two}}
use Rattle.ert_scenario.specs.declared.fault.Fault.TheVariants as faults
use Rattle.ert_scenario.proofs.{Cut.{splits, callers_ops}, Listed.list_of_items}

-- the op that the code makes of migrated items
pub array_migrated : (d : Data) (old new : Vec Value Global) → d ≡ view (Array old) → map view new.items ≡ migrated_items (map view old.items)
    → view (Array new) ≡ migrated_op d
unfolding migrated_op
array_migrated d old new is items =
    let made : view (Array new) ≡ array (items_of (migrated_items (map view old.items))) = view-Array new ∙ ap (λ (xs : List Data). array (items_of xs)) items in
    let listed : array (items_of (migrated_items (map view old.items))) ≡ migrated_op (array (items_view old.items)) =
    ap (λ (xs : List Data). array (items_of (migrated_items xs))) (sym (list_of_items (map view old.items))) in
    made ∙ listed ∙ ap migrated_op (sym (is ∙ view-Array old))

-- the value that the code makes of changed items
pub each_of_array : (change : Data → Data) (d : Data) (old new : Vec Value Global) → d ≡ view (Array old) → map view new.items ≡ map change (map view old.items)
    → view (Array new) ≡ each change d
unfolding each
each_of_array change d old new is items =
    let made : view (Array new) ≡ array (items_of (map change (map view old.items))) = view-Array new ∙ ap (λ (xs : List Data). array (items_of xs)) items in
    let listed : array (items_of (map change (map view old.items))) ≡ each change (array (items_view old.items)) =
    ap (λ (xs : List Data). array (items_of (map change xs))) (sym (list_of_items (map view old.items))) in
    made ∙ listed ∙ ap (each change) (sym (is ∙ view-Array old))

-- ---- an op that asks a scheduler

-- two arguments, and then the end
abbrev two : FoundOrFault ℕ → FoundOrFault ℕ → FoundOrFault (Unit {0}) → FoundOrFault (ℕ × ℕ)
two label process rest = read_both label (read_both process rest) >>= (λ p. Ok (p.0, p.1.0))

-- two arguments, and then a third
abbrev three : FoundOrFault ℕ → FoundOrFault ℕ → FoundOrFault (Bool × Unit {0}) → FoundOrFault (ℕ × ℕ × Bool)
three label process rest = read_both label (read_both process rest) >>= (λ p. Ok (p.0, p.1.0, p.1.1.0))

-- the op that is made of two arguments, and of three
abbrev from_two : (ℕ → ℕ → Bool → Op) → FoundOrFault (ℕ × ℕ) → FoundOrFault Op
from_two make found = found >>= (λ p. Ok (make p.0 p.1 true))

abbrev from_three : (ℕ → ℕ → Bool → Op) → FoundOrFault (ℕ × ℕ × Bool) → FoundOrFault Op
from_three make found = found >>= (λ p. Ok (make p.0 p.1 p.2))

no_first : (make : ℕ → ℕ → Bool → Op) (op : Op) (process : FoundOrFault ℕ) (rest : FoundOrFault (Unit {0})) → from_two make (two (Err faults.Shape) process rest) ≡ Ok op → ⊥
unfolding read_both
no_first make op process rest h = cc

no_second : (make : ℕ → ℕ → Bool → Op) (op : Op) (label : FoundOrFault ℕ) (rest : FoundOrFault (Unit {0})) → from_two make (two label (Err faults.Shape) rest) ≡ Ok op → ⊥
unfolding read_both
no_second make op (Ok a) rest h = cc
no_second make op (Err faults.Shape) rest h = cc
no_second make op (Err faults.Range) rest h = cc

no_end : (make : ℕ → ℕ → Bool → Op) (op : Op) (label process : FoundOrFault ℕ) → from_two make (two label process (Err faults.Shape)) ≡ Ok op → ⊥
unfolding read_both
no_end make op (Ok a) (Ok b) h = cc
no_end make op (Ok a) (Err faults.Shape) h = cc
no_end make op (Ok a) (Err faults.Range) h = cc
no_end make op (Err faults.Shape) process h = cc
no_end make op (Err faults.Range) (Ok b) h = cc
no_end make op (Err faults.Range) (Err faults.Shape) h = cc
no_end make op (Err faults.Range) (Err faults.Range) h = cc

-- where two arguments make an op, the same with `true` after them do
made : (make : ℕ → ℕ → Bool → Op) (op : Op) (label process : FoundOrFault ℕ) → from_two make (two label process (Ok tt)) ≡ Ok op
    → from_three make (three label process (read_both (Ok true) (Ok tt))) ≡ Ok op
unfolding read_both
made make op (Ok label) (Ok process) h = h
made make op (Ok label) (Err faults.Shape) h = absurd (cc)
made make op (Ok label) (Err faults.Range) h = absurd (cc)
made make op (Err faults.Shape) process h = absurd (cc)
made make op (Err faults.Range) (Ok process) h = absurd (cc)
made make op (Err faults.Range) (Err faults.Shape) h = absurd (cc)
made make op (Err faults.Range) (Err faults.Range) h = absurd (cc)

-- an op of format 1 with two arguments, and the op of format 2 with `true` after them
told : (make : ℕ → ℕ → Bool → Op) (op : Op) (args : List Data) → from_two make (two_words args) ≡ Ok op
    → from_three make (request_args (args ++ boolean true ∷ [])) ≡ Ok op
unfolding request_args end boolean_of word integer of_kind
told make op [] h = absurd (no_first make op _ _ h)
told make op (a ∷ []) h = absurd (no_second make op _ _ h)
told make op (a ∷ b ∷ []) h = made make op (word (Some a)) (word (Some b)) h
told make op (a ∷ b ∷ c ∷ rest) h = absurd (no_end make op _ _ h)

-- ---- the other ops

-- where what comes next keeps an op, so does the whole
next_kept : (op : Op) (first : Option (FoundOrFault Op)) (one two : FoundOrFault Op) → (one ≡ Ok op → two ≡ Ok op) → or_next first one ≡ Ok op → or_next first two ≡ Ok op
next_kept op None one two next h = next h
next_kept op (Some found) one two next h = h

no_row : (op : Op) (one two : Bool) (x y : FoundOrFault Op) → one ≡ false → two ≡ false → or_next (cond one (Some x) (cond two (Some y) None)) (Err faults.Shape) ≡ Ok op → ⊥
no_row op true two x y e f h = true≢false e
no_row op false true x y e f h = true≢false f
no_row op false false x y e f h = cc

callers_kept : (op : Op) (name : List ℕ) (args : List Data) → bytes_eq name (codes "cancel_async") ≡ false → bytes_eq name (codes "read_async") ≡ false
    → op_named name (caller_groups One) args ≡ Ok op → op_named name (caller_groups Two) args ≡ Ok op
unfolding rows_of_one
callers_kept op name args e f h =
    next_kept op (row_in name shared_rows args) _ _
    (next_kept op (row_in name clock_rows args) _ _
    (next_kept op (row_in name process_rows args) _ _
    (next_kept op (row_in name timer_rows args) _ _
    (λ last. absurd (no_row op _ _ _ _ e f last))))) h

other_kept : (doer : ListDoer) (op : Op) (name : List ℕ) (args : List Data) → bytes_eq name (codes "cancel_async") ≡ false → bytes_eq name (codes "read_async") ≡ false
    → op_named name (groups_of doer One) args ≡ Ok op → op_named name (groups_of doer Two) args ≡ Ok op
other_kept Everyone op name args e f h =
    next_kept op (row_in name keeper_rows args) _ _ (next_kept op (row_in name sched_rows args) _ _ (callers_kept op name args e f)) h
other_kept Keeper op name args e f h = h
other_kept Caller op name args e f h = callers_kept op name args e f h

-- ---- all

-- the arguments of an op of this name, migrated
abbrev migrated_args : Bool → List Data → List Data
migrated_args asks args = cond asks (args ++ boolean true ∷ []) args

abbrev asks : List ℕ → Bool
asks name = bytes_eq name (codes "cancel_async") || bytes_eq name (codes "read_async")

cancel_kept : (doer : ListDoer) (op : Op) (args : List Data) → op_named (codes "cancel_async") (groups_of doer One) args ≡ Ok op
    → op_named (codes "cancel_async") (groups_of doer Two) (migrated_args (asks (codes "cancel_async")) args) ≡ Ok op
unfolding keeper_rows shared_rows sched_rows clock_rows process_rows timer_rows rows_of_one rows_of_two
cancel_kept Everyone op args h = told CancelAsync op args h
cancel_kept Keeper op args h = absurd (cc)
cancel_kept Caller op args h = told CancelAsync op args h

read_kept : (doer : ListDoer) (op : Op) (args : List Data) → op_named (codes "read_async") (groups_of doer One) args ≡ Ok op
    → op_named (codes "read_async") (groups_of doer Two) (migrated_args (asks (codes "read_async")) args) ≡ Ok op
unfolding keeper_rows shared_rows sched_rows clock_rows process_rows timer_rows rows_of_one rows_of_two
read_kept Everyone op args h = told ReadAsync op args h
read_kept Keeper op args h = absurd (cc)
read_kept Caller op args h = told ReadAsync op args h

-- the op of this name is kept
IsKept : ListDoer → Op → List ℕ → List Data → Type 0
IsKept doer op name args = op_named name (groups_of doer One) args ≡ Ok op → op_named name (groups_of doer Two) (migrated_args (asks name) args) ≡ Ok op

name_kept : (doer : ListDoer) (op : Op) (name : List ℕ) (args : List Data) (cancel read : Bool) → bytes_eq name (codes "cancel_async") ≡ cancel
    → bytes_eq name (codes "read_async") ≡ read → IsKept doer op name args
unfolding IsKept
name_kept doer op name args true read e f =
    subst (λ (n : List ℕ). IsKept doer op n args) (sym ((bytes_eq-Decides name (codes "cancel_async")).0 e)) (cancel_kept doer op args)
name_kept doer op name args false true e f =
    subst (λ (n : List ℕ). IsKept doer op n args) (sym ((bytes_eq-Decides name (codes "read_async")).0 f)) (read_kept doer op args)
name_kept doer op name args false false e f = λ h.
    let none : asks name ≡ false = rw (e, f) refl in
    subst (λ (b : Bool). op_named name (groups_of doer Two) (migrated_args b args) ≡ Ok op) (sym none) (other_kept doer op name args e f h)

named_items : (doer : ListDoer) (op : Op) (info : Bool) (x : Data) (args : List Data) (name : List ℕ) → text (Some x) ≡ Ok name
    → op_named name (groups_of doer Two) (migrated_args info args) ≡ Ok op → op_from Two doer (cond info ((x ∷ args) ++ boolean true ∷ []) (x ∷ args)) ≡ Ok op
named_items doer op true x args name is h = rw is h
named_items doer op false x args name is h = rw is h

items_found : (doer : ListDoer) (op : Op) (x : Data) (args : List Data) (found : FoundOrFault (List ℕ)) → text (Some x) ≡ found
    → (found >>= (λ name. op_named name (groups_of doer One) args)) ≡ Ok op → op_from Two doer (cond (is_ask found) ((x ∷ args) ++ boolean true ∷ []) (x ∷ args)) ≡ Ok op
unfolding IsKept
items_found doer op x args (Ok name) is h = named_items doer op (asks name) x args name is (name_kept doer op name args _ _ refl refl h)
items_found doer op x args (Err fault) is h = absurd (cc)

items_kept : (doer : ListDoer) (op : Op) (items : List Data) → op_from One doer items ≡ Ok op → op_from Two doer (migrated_items items) ≡ Ok op
unfolding text of_kind migrated_items
items_kept doer op [] h = absurd (cc)
items_kept doer op (x ∷ args) h = items_found doer op x args (text (Some x)) refl h

-- an op of format 1, migrated, is the same op
op_kept : (doer : ListDoer) (op : Op) (d : Data) → op_of One doer d ≡ Ok op → op_of Two doer (migrated_op d) ≡ Ok op
unfolding op_of migrated_op listed of_kind
op_kept doer op null h = absurd (cc)
op_kept doer op (boolean b) h = absurd (cc)
op_kept doer op (number n) h = absurd (cc)
op_kept doer op (string s) h = absurd (cc)
op_kept doer op (object ms) h = absurd (cc)
op_kept doer op (array ds) h =
    let same : list_of (items_of (migrated_items (list_of ds))) ≡ migrated_items (list_of ds) = list_of_items (migrated_items (list_of ds)) in
    subst (λ (xs : List Data). op_from Two doer xs ≡ Ok op) (sym same) (items_kept doer op (list_of ds) h)

-- where all ops of a list of format 1 are without a fault, the migrated ones are the same
ops_kept : (doer : ListDoer) (ops : List Op) (items : List Data) → raws_of One doer items ≡ without_fault ops → raws_of Two doer (map migrated_op items) ≡ without_fault ops
ops_kept doer [] [] h = refl
ops_kept doer (op ∷ ops) [] h = absurd (cc)
ops_kept doer [] (d ∷ ds) h = absurd (cc)
ops_kept doer (op ∷ ops) (d ∷ ds) h =
    let first : op_of One doer d ≡ Ok op = cc in
    let rest : raws_of One doer ds ≡ without_fault ops = cc in
    let kept = op_kept doer op d first in
    let others = ops_kept doer ops ds rest in
    cc

-- ---- all lists

-- the raw ops of a list and others, all without a fault
record KeepsList (doer : ListDoer) (items : List Data) (ys : List (FoundOrFault Op)) : Type 0 where
  pub same : raws_of Two doer (map migrated_op items) ≡ raws_of One doer items
  pub rest : List Op
  pub whole : ys ≡ without_fault rest

list_kept : (doer : ListDoer) (items : List Data) (ys : List (FoundOrFault Op)) (ops : List Op) → raws_of One doer items ++ ys ≡ without_fault ops → KeepsList doer items ys
list_kept doer items ys ops h =
    let s = splits (raws_of One doer items) ys ops h in
    record { same = ops_kept doer _ items s.first ∙ sym s.first; rest = _; whole = s.back }

items_in_list : (d : Data) → items_in (migrated_list d) ≡ map migrated_op (items_in d)
unfolding each listed of_kind list_of
items_in_list null = refl
items_in_list (boolean b) = refl
items_in_list (number n) = refl
items_in_list (string s) = refl
items_in_list (object ms) = refl
items_in_list (array ds) = list_of_items (map migrated_op (list_of ds))

-- the ops of callers' lists are the same, each list and all
record KeepsCallers (lists : List Data) : Type 0 where
  pub raws : caller_raws Two (map migrated_list lists) ≡ caller_raws One lists
  pub ops : callers_ops Two (map migrated_list lists) ≡ callers_ops One lists

callers_same : (lists : List Data) (ops : List Op) → caller_raws One lists ≡ without_fault ops → KeepsCallers lists
callers_same [] ops h = record { raws = refl; ops = refl }
callers_same (list ∷ lists) ops h =
    let k = list_kept Caller (items_in list) (caller_raws One lists) ops h in
    let later = callers_same lists k.rest k.whole in
    let first : raws_of Two Caller (items_in (migrated_list list)) ≡ raws_of One Caller (items_in list) = ap (raws_of Two Caller) (items_in_list list) ∙ k.same in
    record {
      raws = ap (λ (xs : List (FoundOrFault Op)). xs ++ caller_raws Two (map migrated_list lists)) first
          ∙ ap (λ (xs : List (FoundOrFault Op)). raws_of One Caller (items_in list) ++ xs) later.raws;
      ops = ap (λ (xs : List (FoundOrFault Op)). ops_of xs ∷ callers_ops Two (map migrated_list lists)) first
          ∙ ap (λ (xs : List (List Op)). ops_of (raws_of One Caller (items_in list)) ∷ xs) later.ops;
    }

-- the lists of a race, migrated
abbrev pub moved_race : RaceValues → RaceValues
moved_race race = record { keeper = map migrated_op race.keeper; callers = map migrated_list race.callers }

abbrev pub moved_lists : OpValues → OpValues
moved_lists lists = record { ops = map migrated_op lists.ops; race = option_map moved_race lists.race }

record KeepsRace (turns : ℕ) (race : Option RaceValues) : Type 0 where
  pub raws : race_raws Two (option_map moved_race race) ≡ race_raws One race
  pub plan : option_map (planned_race Two turns) (option_map moved_race race) ≡ option_map (planned_race One turns) race

race_same : (turns : ℕ) (race : Option RaceValues) (ops : List Op) → race_raws One race ≡ without_fault ops → KeepsRace turns race
race_same turns None ops h = record { raws = refl; plan = refl }
race_same turns (Some race) ops h =
    let k = list_kept Keeper race.keeper (caller_raws One race.callers) ops h in
    let later = callers_same race.callers k.rest k.whole in
    let make : List Op → List (List Op) → Option Race = λ keeper callers. Some (record { turns = turns; keeper = keeper; callers = callers }) in
    record {
      raws = ap (λ (xs : List (FoundOrFault Op)). xs ++ caller_raws Two (map migrated_list race.callers)) k.same
          ∙ ap (λ (xs : List (FoundOrFault Op)). raws_of One Keeper race.keeper ++ xs) later.raws;
      plan = ap (λ (xs : List (FoundOrFault Op)). make (ops_of xs) (callers_ops Two (map migrated_list race.callers))) k.same
          ∙ ap (make (ops_of (raws_of One Keeper race.keeper))) later.ops;
    }

-- where the ops of all lists of format 1 are without a fault, the migrated ones are the same
pub record KeepsAll (turns : ℕ) (lists : OpValues) : Type 0 where
  pub raws : all_raws Two (moved_lists lists) ≡ all_raws One lists
  pub ops : ops_of (raws_of Two Everyone (map migrated_op lists.ops)) ≡ ops_of (raws_of One Everyone lists.ops)
  pub race : option_map (planned_race Two turns) (option_map moved_race lists.race) ≡ option_map (planned_race One turns) lists.race

pub all_kept : (turns : ℕ) (lists : OpValues) (ops : List Op) → all_raws One lists ≡ without_fault ops → KeepsAll turns lists
all_kept turns lists ops h =
    let k = list_kept Everyone lists.ops (race_raws One lists.race) ops h in
    let later = race_same turns lists.race k.rest k.whole in
    record {
      raws = ap (λ (xs : List (FoundOrFault Op)). xs ++ race_raws Two (option_map moved_race lists.race)) k.same
          ∙ ap (λ (xs : List (FoundOrFault Op)). raws_of One Everyone lists.ops ++ xs) later.raws;
      ops = ap ops_of k.same;
      race = later.plan;
    }
