-- A scenario without a race is one whose value is accepted.

use Rattle.std.proofs.Common.{◌≡◌, ◌≢◌, ◌+◌, ◌≤◌, ℕ, suc, List, [], ◌∷◌, ◌++◌, map, length, get_or, Bool, true, false, ◌&&◌, ◌||◌, not, Option, Some, None, Ok, Err, eqb, ltb, cond, codes, sym, subst, ap, ◌∙◌, arith, refl, append-nil}
use Rattle.std.specs.List.{list_all}
use Rattle.std.proofs.lemmas.{Bool.and_parts, Bool.Decides.nat_tests, List.length-map}
use Rattle.serde_json.specs.Data.{Data}
use Rattle.ert_defs.specs.declared.settings.Settings.{Settings}
use Rattle.ert_ops.specs.{Labels.{labels_in, AreOps}, declared.op.Op.Op, declared.op.Op.TheVariants.{Start, SendAfter}}
use Rattle.ert_scenario.specs.{Acceptance.{IsAccepted, plan_alone}, Fields.{head_of, settings_with, settings_from, field, top_of, format_of}, Labels.{started_label, has, is_new, with_label, tested}, Lists.{OpValues, lists_found}}
use Rattle.ert_scenario.specs.{Ranges.{is_op, is_checked}, Scenarios.{Plan, Verdict, with_callers, is_over, over, refused, planned, judged, judged_all, verdict_of}, Walked.without_fault, Walks.{raws_of, all_raws, first_shape, first_range}}
use Rattle.ert_scenario.specs.{Walks.ops_of, declared.doer.ListDoer.TheVariants.Everyone, declared.fields.Top.Top, declared.format.Format.Format, declared.scenario.ScenarioErr.TheVariants.{Shape, Range, Limit}}
use Rattle.ert_scenario.specs.Kinds.{FoundOrFault, ◌>>=◌, if_in_range, listed}
use Rattle.ert_scenario.proofs.{Cut.ops_of-without, Founds.{follows, in_range_parts}, NewLabels.AreNew, SettingsRead.{has_settings, settings_are}, Valid.{tested_plan, valid, whole}}

-- ---- the settings are for one caller

for_one : (d : Data) (g : Settings) → settings_from false d ≡ Ok g → with_callers 1 g ≡ g
unfolding settings_from
for_one d g h =
    let f = follows (head_of false d) _ g h in
    let fits = in_range_parts (is_checked (settings_with f.read)) (settings_with f.read) g f.then in
    subst (λ (k : Settings). with_callers 1 k ≡ k) fits.1 refl

-- ---- a scenario is accepted

range_step : (g : Settings) (op : Op) (new : Bool) (rest : List (FoundOrFault Op)) (k : ℕ) → first_range k (if_in_range (is_op g op && new) op ∷ rest) ≡ None
    → (first_range (k + 1) rest ≡ None → list_all (is_op g) (ops_of rest) ≡ true) → list_all (is_op g) (ops_of (if_in_range (is_op g op && new) op ∷ rest)) ≡ true
unfolding if_in_range
range_step g op new rest k h later = by_test (is_op g op && new) refl h
  where
    by_test : (fits : Bool) → (is_op g op && new) ≡ fits → first_range k (if_in_range fits op ∷ rest) ≡ None → list_all (is_op g) (ops_of (if_in_range fits op ∷ rest)) ≡ true
    by_test true e h =
        let own = (and_parts (is_op g op) new e).0 in
        ap (λ (b : Bool). b && list_all (is_op g) (ops_of rest)) own ∙ later h
    by_test false e h = absurd (cc)

pub all_fit : (g : Settings) (labels : List ℕ) (raws : List (FoundOrFault Op)) (k : ℕ) → first_range k (tested g labels raws) ≡ None → list_all (is_op g) (ops_of (tested g labels raws)) ≡ true
all_fit g labels [] k h = refl
all_fit g labels (Ok op ∷ raws) k h =
    range_step g op (is_new labels (started_label op)) (tested g (with_label labels (started_label op)) raws) k h (all_fit g (with_label labels (started_label op)) raws (k + 1))
all_fit g labels (Err fault ∷ raws) k h = absurd (cc)

-- what is known of a value without a race that is a scenario
record IsAlone (d : Data) (plan : Plan) : Type 0 where
  values : List Data
  g : Settings
  settings : settings_from false d ≡ Ok g
  list : field (codes "ops") listed d ≡ Ok values
  is : plan ≡ plan_alone g (ops_of (raws_of (format_of d) Everyone values))
  range : first_range 1 (tested g [] (raws_of (format_of d) Everyone values)) ≡ None

record AreListed (d : Data) (lists : OpValues) : Type 0 where
  values : List Data
  list : field (codes "ops") listed d ≡ Ok values
  is : lists ≡ record { ops = values; race = None }

are_listed : (d : Data) (lists : OpValues) → lists_found false d ≡ Ok lists → AreListed d lists
unfolding lists_found
are_listed d lists h =
    let f = follows (field (codes "ops") listed d) _ lists h in
    let made : Ok (record { ops = f.read; race = None }) ≡ Ok lists = f.then in
    let same : record { ops = f.read; race = None } ≡ lists = cc in
    record { values = f.read; list = f.was; is = sym same }

top_alone : (d : Data) (top : Top) → top_of false d ≡ Ok top → settings_from false d ≡ Ok top.settings
unfolding top_of
top_alone d top h =
    let f = follows (settings_from false d) _ top h in
    let made : Ok (record { settings = f.read; turns = 0 }) ≡ Ok top = f.then in
    let same : record { settings = f.read; turns = 0 } ≡ top = cc in
    subst (λ (t : Top). settings_from false d ≡ Ok t.settings) same f.was

is_alone : (d : Data) (plan : Plan) → verdict_of false d ≡ Ok plan → IsAlone d plan
is_alone d plan h =
    let t = tested_plan false d plan h in
    let l = are_listed d t.lists t.listed in
    let g = t.top.settings in
    let opens = top_alone d t.top t.opens in
    let raws = raws_of (format_of d) Everyone l.values in
    let made : plan ≡ planned (format_of d) (record { ops = l.values; race = None }) t.top =
    subst (λ (k : OpValues). plan ≡ planned (format_of d) k t.top) l.is t.made in
    let range : first_range 1 (tested g [] (raws ++ [])) ≡ None =
    subst (λ (k : OpValues). first_range 1 (tested g [] (all_raws (format_of d) k)) ≡ None) l.is t.range in
    record {
      values = l.values;
      g = g;
      settings = opens;
      list = l.list;
      is = made ∙ ap (λ (k : Settings). plan_alone k (ops_of raws)) (for_one d g opens);
      range = subst (λ (k : List (FoundOrFault Op)). first_range 1 (tested g [] k) ≡ None) (append-nil raws) range;
    }

-- a scenario without a race is accepted
pub accepted : (d : Data) (plan : Plan) → verdict_of false d ≡ Ok plan → IsAccepted d plan.settings plan.ops
accepted d plan h =
    let v = valid false d plan h in
    let a = is_alone d plan h in
    let raws : List (FoundOrFault Op) = raws_of (format_of d) Everyone a.values in
    let flat : List Op = ops_of (tested a.g [] raws) in
    let all : raws ≡ without_fault flat = whole a.g [] raws 1 a.range in
    let same : ops_of raws ≡ flat = ap ops_of all ∙ ops_of-without flat in
    let fit : list_all (is_op a.g) (ops_of raws) ≡ true = subst (λ (k : List Op). list_all (is_op a.g) k ≡ true) (sym same) (all_fit a.g [] raws 1 a.range) in
    let reads : raws ≡ map Ok (ops_of raws) = all ∙ ap without_fault (sym same) in
    let labels : AreOps (ops_of raws) = subst (λ (p : Plan). AreOps p.ops) a.is v.labels in
    subst (λ (p : Plan). IsAccepted d p.settings p.ops) (sym a.is)
    (record {
      settings = has_settings false d a.g a.settings;
      list = record { values = a.values; list = a.list; reads = reads };
      in_range = fit;
      labels = labels;
    })

-- and has no race
pub plan_is_alone : (d : Data) (plan : Plan) → verdict_of false d ≡ Ok plan → plan ≡ plan_alone plan.settings plan.ops
plan_is_alone d plan h =
    let a = is_alone d plan h in
    subst (λ (p : Plan). p ≡ plan_alone p.settings p.ops) (sym a.is) refl

-- ---- what is accepted is a scenario

apart : (l k : ℕ) → l ≢ k → eqb k l ≡ false
apart l k h = grind (arith, nat_tests)

pub or_none : (a b : Bool) → a ≡ false → b ≡ false → (a || b) ≡ false
or_none a b first second = ap (λ (x : Bool). x || b) first ∙ second

-- one label is new, and so are those behind it
record IsNewThen (earlier : List ℕ) (o : Option ℕ) (labels : List ℕ) : Type 0 where
  first : is_new earlier o ≡ true
  then : AreNew (with_label earlier o) labels

label_then : (earlier : List ℕ) (l : ℕ) (labels : List ℕ) → AreNew earlier (l ∷ labels) → IsNewThen earlier (Some l) labels
label_then earlier l labels h = record {
  first = ap not (h.new 0 0 (omega arith));
  then = record {
    apart = λ i j d before below. h.apart (suc i) (suc j) d (omega arith) (omega arith);
    new = λ i d below.
        or_none (eqb (get_or labels i d) l) (has earlier (get_or labels i d))
        (apart l (get_or labels i d) (h.apart 0 (suc i) d (omega arith) (omega arith)))
        (h.new (suc i) d (omega arith));
  };
}

new_then : (earlier : List ℕ) (op : Op) (ops : List Op) → AreNew earlier (labels_in (op ∷ ops)) → IsNewThen earlier (started_label op) (labels_in ops)
unfolding started_label
new_then earlier (Start l wheel when dest msg) ops h = label_then earlier l (labels_in ops) h
new_then earlier (SendAfter l wheel when dest msg) ops h = label_then earlier l (labels_in ops) h
new_then earlier _ ops h = record { first = refl; then = h }

fits_step : (fits new : Bool) (op : Op) → fits ≡ true → new ≡ true → if_in_range (fits && new) op ≡ Ok op
unfolding if_in_range
fits_step fits new op first second = ap (λ (b : Bool). if_in_range (b && new) op) first ∙ ap (λ (b : Bool). if_in_range b op) second

pub tested_same : (g : Settings) (earlier : List ℕ) (ops : List Op) → list_all (is_op g) ops ≡ true → AreNew earlier (labels_in ops)
    → tested g earlier (without_fault ops) ≡ without_fault ops
tested_same g earlier [] fit new = refl
tested_same g earlier (op ∷ ops) fit new =
    let parts = and_parts (is_op g op) (list_all (is_op g) ops) fit in
    let label = new_then earlier op ops new in
    ap (λ (found : FoundOrFault Op). found ∷ tested g (with_label earlier (started_label op)) (without_fault ops))
    (fits_step (is_op g op) (is_new earlier (started_label op)) op parts.0 label.first)
    ∙ ap (λ (rest : List (FoundOrFault Op)). Ok op ∷ rest) (tested_same g (with_label earlier (started_label op)) ops parts.1 label.then)

pub no_shape : (ops : List Op) (k : ℕ) → first_shape k (without_fault ops) ≡ None
no_shape [] k = refl
no_shape (op ∷ ops) k = no_shape ops (k + 1)

pub no_range : (ops : List Op) (k : ℕ) → first_range k (without_fault ops) ≡ None
no_range [] k = refl
no_range (op ∷ ops) k = no_range ops (k + 1)

few : (n : ℕ) → n ≤ 100000 → is_over n 0 0 ≡ false
few n h = or_none (ltb 100000 n) false (low n h) refl
  where
    low : (n : ℕ) → n ≤ 100000 → ltb 100000 n ≡ false
    low n h = grind (arith, nat_tests)

pub judged_as : (format : Format) (lists : OpValues) (top : Top) (founds : List (FoundOrFault Op)) → first_shape 1 founds ≡ None → first_range 1 founds ≡ None
    → over top lists.race founds ≡ None → judged format lists (Ok top) founds ≡ Ok (planned format lists top)
judged_as format lists top founds shape range limit =
    let all : Verdict = Ok (planned format lists top) in
    ap (λ (k : Option ℕ). refused Shape k (refused Range (first_range 1 founds) (refused Limit (over top lists.race founds) all))) shape
    ∙ ap (λ (k : Option ℕ). refused Range k (refused Limit (over top lists.race founds) all)) range
    ∙ ap (λ (k : Option ℕ). refused Limit k all) limit

pub not_over : (is : Bool) → is ≡ false → cond {A = Option ℕ} is (Some 0) None ≡ None
not_over is h = ap (λ (b : Bool). cond {A = Option ℕ} b (Some 0) None) h

-- the plan of what is accepted
pub is_scenario : (d : Data) (g : Settings) (ops : List Op) → IsAccepted d g ops → verdict_of false d ≡ Ok (plan_alone g ops)
unfolding verdict_of lists_found top_of
is_scenario d g ops a =
    let format : Format = format_of d in
    let opened : settings_from false d ≡ Ok g = settings_are false d g a.settings in
    let lists : OpValues = record { ops = a.list.values; race = None } in
    let top : Top = record { settings = g; turns = 0 } in
    let found : lists_found false d ≡ Ok lists = ap (λ (r : FoundOrFault (List Data)). r >>= (λ ops. Ok (record { ops = ops; race = None }))) a.list.list in
    let opens : top_of false d ≡ Ok top = ap (λ (r : FoundOrFault Settings). r >>= (λ g. Ok (record { settings = g; turns = 0 }))) opened in
    let raws : List (FoundOrFault Op) = raws_of format Everyone a.list.values in
    let founds : tested g [] (raws ++ []) ≡ without_fault ops =
    ap (tested g []) (append-nil raws ∙ a.list.reads)
    ∙ tested_same g [] ops a.in_range (record { apart = a.labels.apart; new = λ i d below. refl }) in
    let many : length (without_fault ops) ≡ length ops = length-map ops Ok in
    let verdict : judged format lists (Ok top) (without_fault ops) ≡ Ok (planned format lists top) =
    judged_as format lists top (without_fault ops) (no_shape ops 1) (no_range ops 1)
    (not_over (is_over (length (without_fault ops)) 0 0) (few (length (without_fault ops)) (omega (arith, many, a.labels.few)))) in
    let read : ops_of raws ≡ ops = ap ops_of a.list.reads ∙ ops_of-without ops in
    ap (λ (r : FoundOrFault OpValues). judged_all format r (top_of false d)) found
    ∙ ap (λ (r : FoundOrFault Top). judged_all format (Ok lists) r) opens
    ∙ ap (λ (k : List (FoundOrFault Op)). judged format lists (Ok top) k) founds
    ∙ verdict
    ∙ ap (λ (k : List Op). Ok (record { settings = with_callers 1 g; ops = k; race = None })) read
    ∙ ap (λ (k : Settings). Ok (plan_alone k ops)) (for_one d g opened)
