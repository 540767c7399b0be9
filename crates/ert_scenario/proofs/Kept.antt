-- A value and its migrated value are the same scenario.

use Rattle.std.proofs.Common.{◌≡◌, ◌+◌, ℕ, List, [], map, Bool, true, false, Option, Some, None, option_map, Ok, Err, codes, bytes_eq, sym, subst, ap, ◌∙◌, refl}
use Rattle.std.proofs.lemmas.List.{length-map}
use Rattle.serde_json.specs.{Data.{Data, number, object, unsigned, Members, put}, Find.get}
use Rattle.serde_json.proofs.Views.{get_member-put, get_member-put_other}
use Rattle.ert_ops.specs.{Races.Race, declared.op.Op.Op}
use Rattle.ert_scenario.specs.{Fields.{is_among, race_fields, is_field, are_named, only_named, field, start_and_first, modes, clock_fields_of, sizes_of, one_or_two, settings_from, race_turns, top_of, format_of}, Lists.RaceValues}
use Rattle.ert_scenario.specs.{Lists.{OpValues, race_lists, lists_in, lists_found, list_count}, Migration.{IsOfFormat, migrated_op, each, migrated_list, with_field, changed_to, changed, migrated_race, migrated}, Scenarios.{Plan, IsValue}}
use Rattle.ert_scenario.specs.{Scenarios.{IsScenario, with_callers, planned_race, planned, judged, judged_all, verdict_of}, Labels.tested, Walked.without_fault, Walks.{raws_of, all_raws, ops_of}, declared.doer.ListDoer.TheVariants.Everyone}
use Rattle.ert_scenario.specs.{declared.fault.Fault.TheVariants.Shape, declared.fields.Top.Top, declared.format.Format.Format, declared.format.Format.TheVariants.{One, Two}}
use Rattle.ert_scenario.specs.Kinds.{FoundOrFault, found_map, ◌>>=◌, read_both, of_kind, if_in_range, integer, listed, arrays}
use Rattle.ert_scenario.proofs.{Founds.both_seen, Least.verdict_at, Migrated.{moved_race, moved_lists, all_kept}, Valid.{whole, tested_plan}, Changed.{other_field, this_field, same_names, each_listed, each_arrays, put_named, apart}}

-- ---- a race

abbrev TURNS : List ℕ
TURNS = codes "turns"

abbrev KEEPER : List ℕ
KEEPER = codes "keeper"

abbrev CALLERS : List ℕ
CALLERS = codes "callers"

turns_moved : (race : Data) → get TURNS (migrated_race race) ≡ get TURNS race
turns_moved race =
    other_field TURNS CALLERS (each migrated_list) (changed KEEPER migrated_list race) refl ∙ other_field TURNS KEEPER migrated_list race refl

keeper_moved : (race : Data) → get KEEPER (migrated_race race) ≡ option_map migrated_list (get KEEPER race)
keeper_moved race =
    other_field KEEPER CALLERS (each migrated_list) (changed KEEPER migrated_list race) refl ∙ this_field KEEPER migrated_list race

callers_moved : (race : Data) → get CALLERS (migrated_race race) ≡ option_map (each migrated_list) (get CALLERS race)
callers_moved race =
    this_field CALLERS (each migrated_list) (changed KEEPER migrated_list race)
    ∙ ap (option_map (each migrated_list)) (other_field CALLERS KEEPER migrated_list race refl)

names_moved : (race : Data) → only_named (is_among race_fields) (migrated_race race) ≡ only_named (is_among race_fields) race
names_moved race =
    same_names (is_among race_fields) CALLERS (each migrated_list) (changed KEEPER migrated_list race)
    ∙ same_names (is_among race_fields) KEEPER migrated_list race

-- two lists, made those of a race
abbrev race_with : List Data × List Data → RaceValues
race_with p = record { keeper = p.0; callers = p.1 }

abbrev both_moved : List Data × List Data → List Data × List Data
both_moved p = (map migrated_op p.0, map migrated_list p.1)

then_race : (found : FoundOrFault (List Data × List Data)) → (found_map both_moved found >>= (λ p. Ok (race_with p))) ≡ found_map moved_race (found >>= (λ p. Ok (race_with p)))
then_race (Ok p) = refl
then_race (Err fault) = refl

lists_in_moved : (race : Data) → lists_in (migrated_race race) ≡ found_map moved_race (lists_in race)
lists_in_moved race =
    let keeper : listed (get KEEPER (migrated_race race)) ≡ found_map (map migrated_op) (listed (get KEEPER race)) = ap listed (keeper_moved race) ∙ each_listed migrated_op (get KEEPER race) in
    let callers : arrays (get CALLERS (migrated_race race)) ≡ found_map (map migrated_list) (arrays (get CALLERS race)) = ap arrays (callers_moved race) ∙ each_arrays (get CALLERS race) in
    ap (λ (found : FoundOrFault (List Data)). read_both found (arrays (get CALLERS (migrated_race race))) >>= (λ p. Ok (race_with p))) keeper
    ∙ ap (λ (found : FoundOrFault (List Data)). read_both (found_map (map migrated_op) (listed (get KEEPER race))) found >>= (λ p. Ok (race_with p))) callers
    ∙ ap (λ (found : FoundOrFault (List Data × List Data)). found >>= (λ p. Ok (race_with p)))
    (sym (both_seen (map migrated_op) (map migrated_list) (listed (get KEEPER race)) (arrays (get CALLERS race))))
    ∙ then_race (read_both (listed (get KEEPER race)) (arrays (get CALLERS race)))

race_lists_moved : (o : Option Data) → race_lists (option_map migrated_race o) ≡ found_map moved_race (race_lists o)
unfolding race_lists of_kind
race_lists_moved None = refl
race_lists_moved (Some race) = lists_in_moved race

race_turns_moved : (o : Option Data) → race_turns (option_map migrated_race o) ≡ race_turns o
unfolding race_turns of_kind
race_turns_moved None = refl
race_turns_moved (Some race) = rw (names_moved race, turns_moved race) refl

-- ---- a value

abbrev OPS : List ℕ
OPS = codes "ops"

abbrev RACE : List ℕ
RACE = codes "race"

abbrev FORMAT : List ℕ
FORMAT = codes "format"

-- with its lists migrated
abbrev with_lists : Data → Data
with_lists d = changed RACE migrated_race (changed OPS migrated_list d)

object_at : (name : List ℕ) (change : Data → Data) (o : Option Data) (ms : Members) → (new : Members) × (changed_to name change o (object ms) ≡ object new)
unfolding with_field
object_at name change None ms = (ms, refl)
object_at name change (Some v) ms = (put name (change v) ms, refl)

-- an object stays one
stays_object : (name : List ℕ) (change : Data → Data) (ms : Members) → (new : Members) × (changed name change (object ms) ≡ object new)
unfolding changed
stays_object name change ms = object_at name change (get name (object ms)) ms

-- the migrated value of an object
record IsMoved (d : Data) : Type 0 where
  pub members : Members
  pub lists : with_lists d ≡ object members
  pub is : migrated d ≡ object (put FORMAT (number (unsigned 2)) members)

moved_object : (ms : Members) → IsMoved (object ms)
unfolding migrated with_field
moved_object ms =
    let first = stays_object OPS migrated_list ms in
    let then = stays_object RACE migrated_race first.0 in
    let lists_moved : with_lists (object ms) ≡ object then.0 = ap (changed RACE migrated_race) first.1 ∙ then.1 in
    record { members = then.0; lists = lists_moved; is = ap (with_field FORMAT (number (unsigned 2))) lists_moved }

has_format : (d : Data) → IsOfFormat 1 d → IsMoved d
unfolding integer of_kind
has_format (object ms) h = moved_object ms
has_format _ h = absurd (cc)

no_ops : {X : Type 0} (rest : FoundOrFault RaceValues) (make : List Data × RaceValues → FoundOrFault X) (x : X) → (read_both (Err Shape) rest >>= make) ≡ Ok x → ⊥
unfolding read_both
no_ops rest make x h = cc

-- a value that has lists is an object
has_lists : (race : Bool) (d : Data) (lists : OpValues) → lists_found race d ≡ Ok lists → IsMoved d
unfolding lists_found listed of_kind
has_lists race (object ms) lists h = moved_object ms
has_lists false _ lists h = absurd (cc)
has_lists true _ lists h = absurd (no_ops _ _ lists h)

kept_field : (d : Data) (k : List ℕ) → IsMoved d → bytes_eq k FORMAT ≡ false → get k (migrated d) ≡ get k (with_lists d)
kept_field d k m h =
    ap (get k) m.is ∙ get_member-put_other k FORMAT (number (unsigned 2)) m.members (apart k FORMAT h) ∙ ap (get k) (sym m.lists)

other_kept : (d : Data) (k : List ℕ) → IsMoved d → bytes_eq k FORMAT ≡ false → bytes_eq k RACE ≡ false → bytes_eq k OPS ≡ false → get k (migrated d) ≡ get k d
other_kept d k m e f g =
    kept_field d k m e ∙ other_field k RACE migrated_race (changed OPS migrated_list d) f ∙ other_field k OPS migrated_list d g

ops_moved : (d : Data) → IsMoved d → get OPS (migrated d) ≡ option_map migrated_list (get OPS d)
ops_moved d m = kept_field d OPS m refl ∙ other_field OPS RACE migrated_race (changed OPS migrated_list d) refl ∙ this_field OPS migrated_list d

race_moved : (d : Data) → IsMoved d → get RACE (migrated d) ≡ option_map migrated_race (get RACE d)
race_moved d m =
    kept_field d RACE m refl ∙ this_field RACE migrated_race (changed OPS migrated_list d)
    ∙ ap (option_map migrated_race) (other_field RACE OPS migrated_list d refl)

format_moved : (d : Data) → IsMoved d → get FORMAT (migrated d) ≡ Some (number (unsigned 2))
format_moved d m = ap (get FORMAT) m.is ∙ get_member-put FORMAT (number (unsigned 2)) m.members

fields_moved : (race : Bool) (d : Data) → IsMoved d → only_named (is_field race) (migrated d) ≡ only_named (is_field race) d
unfolding only_named of_kind
fields_moved race d m =
    let same : are_named (is_field race) (put FORMAT (number (unsigned 2)) m.members) ≡ are_named (is_field race) m.members = put_named (is_field race) FORMAT (number (unsigned 2)) m.members in
    ap (only_named (is_field race)) m.is ∙ rw same refl ∙ ap (only_named (is_field race)) (sym m.lists)
    ∙ same_names (is_field race) RACE migrated_race (changed OPS migrated_list d) ∙ same_names (is_field race) OPS migrated_list d

clock_moved : (d : Data) → IsMoved d → clock_fields_of (migrated d) ≡ clock_fields_of d
unfolding clock_fields_of start_and_first modes
clock_moved d m =
    rw (other_kept d (codes "start") m refl refl refl, other_kept d (codes "first") m refl refl refl, other_kept d (codes "mode") m refl refl refl, other_kept d (codes "correction") m refl refl refl)
    refl

sizes_moved : (d : Data) → IsMoved d → sizes_of (migrated d) ≡ sizes_of d
unfolding sizes_of
sizes_moved d m =
    rw (other_kept d (codes "schedulers") m refl refl refl, other_kept d (codes "processes") m refl refl refl, other_kept d (codes "slots") m refl refl refl) refl

one_of_format : (d : Data) → IsOfFormat 1 d → field FORMAT one_or_two d ≡ Ok tt
unfolding one_or_two if_in_range
one_of_format d h = rw h refl

two_moved : (d : Data) → IsMoved d → field FORMAT one_or_two (migrated d) ≡ Ok tt
unfolding one_or_two if_in_range integer of_kind
two_moved d m = rw (format_moved d m) refl

settings_moved : (race : Bool) (d : Data) → IsOfFormat 1 d → IsMoved d → settings_from race (migrated d) ≡ settings_from race d
unfolding settings_from
settings_moved race d h m =
    let formats : field FORMAT one_or_two (migrated d) ≡ field FORMAT one_or_two d = two_moved d m ∙ sym (one_of_format d h) in
    rw (fields_moved race d m, formats, clock_moved d m, sizes_moved d m) refl

top_moved : (race : Bool) (d : Data) → IsOfFormat 1 d → IsMoved d → top_of race (migrated d) ≡ top_of race d
unfolding top_of
top_moved false d h m = rw (settings_moved false d h m) refl
top_moved true d h m =
    let turns : field RACE race_turns (migrated d) ≡ field RACE race_turns d = ap race_turns (race_moved d m) ∙ race_turns_moved (get RACE d) in
    rw (settings_moved true d h m, turns) refl

is_two : (d : Data) → IsMoved d → IsOfFormat 2 (migrated d)
unfolding integer of_kind
is_two d m = rw (format_moved d m) refl

reads_two : (d : Data) → IsOfFormat 2 d → format_of d ≡ Two
unfolding format_of
reads_two d h = rw h refl

reads_one : (d : Data) → IsOfFormat 1 d → format_of d ≡ One
unfolding format_of
reads_one d h = rw h refl

abbrev alone : List Data → OpValues
alone ops = record { ops = ops; race = None }

then_alone : (found : FoundOrFault (List Data)) → (found_map (map migrated_op) found >>= (λ ops. Ok (alone ops))) ≡ found_map moved_lists (found >>= (λ ops. Ok (alone ops)))
then_alone (Ok ops) = refl
then_alone (Err fault) = refl

abbrev together : List Data × RaceValues → OpValues
together p = record { ops = p.0; race = Some p.1 }

then_together : (found : FoundOrFault (List Data × RaceValues))
    → (found_map (λ p. (map migrated_op p.0, moved_race p.1)) found >>= (λ p. Ok (together p))) ≡ found_map moved_lists (found >>= (λ p. Ok (together p)))
then_together (Ok p) = refl
then_together (Err fault) = refl

lists_moved : (race : Bool) (d : Data) → IsMoved d → lists_found race (migrated d) ≡ found_map moved_lists (lists_found race d)
unfolding lists_found
lists_moved false d m =
    ap (λ (found : FoundOrFault (List Data)). found >>= (λ ops. Ok (alone ops))) (ap listed (ops_moved d m) ∙ each_listed migrated_op (get OPS d)) ∙ then_alone (listed (get OPS d))
lists_moved true d m =
    let ops : listed (get OPS (migrated d)) ≡ found_map (map migrated_op) (listed (get OPS d)) = ap listed (ops_moved d m) ∙ each_listed migrated_op (get OPS d) in
    let race : race_lists (get RACE (migrated d)) ≡ found_map moved_race (race_lists (get RACE d)) = ap race_lists (race_moved d m) ∙ race_lists_moved (get RACE d) in
    ap (λ (found : FoundOrFault (List Data)). read_both found (race_lists (get RACE (migrated d))) >>= (λ p. Ok (together p))) ops
    ∙ ap (λ (found : FoundOrFault RaceValues). read_both (found_map (map migrated_op) (listed (get OPS d))) found >>= (λ p. Ok (together p))) race
    ∙ ap (λ (found : FoundOrFault (List Data × RaceValues)). found >>= (λ p. Ok (together p))) (sym (both_seen (map migrated_op) moved_race (listed (get OPS d)) (race_lists (get RACE d))))
    ∙ then_together (read_both (listed (get OPS d)) (race_lists (get RACE d)))

-- ---- the verdict

same_count : (race : Option RaceValues) → list_count (option_map moved_race race) ≡ list_count race
same_count None = refl
same_count (Some race) = length-map race.callers migrated_list

plan_with : ℕ → Top → List Op → Option Race → Plan
plan_with lists top ops race = record { settings = with_callers (1 + lists) top.settings; ops = ops; race = race }

-- where no op of the value has a fault, the migrated lists have the verdict of the lists
same_judged : (lists : OpValues) (top : Top) (ops : List Op) → all_raws One lists ≡ without_fault ops
    → judged_all Two (Ok (moved_lists lists)) (Ok top) ≡ judged_all One (Ok lists) (Ok top)
unfolding plan_with
same_judged lists top ops h =
    let k = all_kept top.turns lists ops h in
    let founds = tested top.settings [] (all_raws One lists) in
    let plans : planned Two (moved_lists lists) top ≡ planned One lists top =
    ap (λ n. plan_with n top (ops_of (raws_of Two Everyone (map migrated_op lists.ops))) (option_map (planned_race Two top.turns) (option_map moved_race lists.race))) (same_count lists.race)
    ∙ ap (λ (xs : List Op). plan_with (list_count lists.race) top xs (option_map (planned_race Two top.turns) (option_map moved_race lists.race))) k.ops
    ∙ ap (plan_with (list_count lists.race) top (ops_of (raws_of One Everyone lists.ops))) k.race in
    ap (λ (raws : List (FoundOrFault Op)). judged Two (moved_lists lists) (Ok top) (tested top.settings [] raws)) k.raws ∙ rw (plans, same_count lists.race) refl

-- a value of format 1 that is a scenario is the same one when it is migrated
pub migrated_same : (race : Bool) (d : Data) (plan : Plan) → IsOfFormat 1 d → verdict_of race d ≡ Ok plan → verdict_of race (migrated d) ≡ Ok plan
unfolding verdict_of
migrated_same race d plan one h =
    let t = tested_plan race d plan h in
    let m = has_format d one in
    let reads : format_of d ≡ One = reads_one d one in
    let two : format_of (migrated d) ≡ Two = reads_two (migrated d) (is_two d m) in
    let ours : lists_found race (migrated d) ≡ Ok (moved_lists t.lists) = lists_moved race d m ∙ ap (found_map moved_lists) t.listed in
    let top : top_of race (migrated d) ≡ Ok t.top = top_moved race d one m ∙ t.opens in
    let clean : all_raws One t.lists ≡ without_fault _ = ap (λ f. all_raws f t.lists) (sym reads) ∙ whole t.top.settings [] (all_raws (format_of d) t.lists) 1 t.range in
    let before : judged_all One (Ok t.lists) (Ok t.top) ≡ Ok plan = verdict_parts (format_of d) (lists_found race d) (top_of race d) t.lists t.top plan reads t.listed t.opens h in
    rw (two, ours, top) (same_judged t.lists t.top _ clean ∙ before)
  where
    verdict_parts : (format : Format) (found : FoundOrFault OpValues) (opened : FoundOrFault Top) (lists : OpValues) (top : Top) (plan : Plan) → format ≡ One → found ≡ Ok lists → opened ≡ Ok top
        → judged_all format found opened ≡ Ok plan → judged_all One (Ok lists) (Ok top) ≡ Ok plan
    verdict_parts format found opened lists top plan e f g h =
        let p = subst (λ o. judged_all o found opened ≡ Ok plan) e h in
        let q = subst (λ (l : FoundOrFault OpValues). judged_all One l opened ≡ Ok plan) f p in
        subst (λ (t : FoundOrFault Top). judged_all One (Ok lists) t ≡ Ok plan) g q

-- and its format is 2
pub migrated_two : (race : Bool) (d : Data) (plan : Plan) → verdict_of race d ≡ Ok plan → IsOfFormat 2 (migrated d)
migrated_two race d plan h = let t = tested_plan race d plan h in is_two d (has_lists race d t.lists t.listed)

-- so a text of it is the same scenario
pub text_same : (race : Bool) (bytes other : List ℕ) (d : Data) (plan : Plan) → IsValue bytes d → IsOfFormat 1 d → IsScenario race bytes plan → IsValue other (migrated d)
    → IsScenario race other plan
text_same race bytes other d plan value one is moved = (migrated d, moved, migrated_same race d plan one (verdict_at race bytes d (Ok plan) value is))
