-- The members of an object, one after another, and the verdict on the object.

use Rattle.std.proofs.Common.{◌≡◌, ◌<◌, ◌≤◌, ◌-◌, ◌+◌, ℕ, suc, List, [], ◌∷◌, Bool, true, false, ◌&&◌, Option, Some, None, is_some, Result, Ok, Err, length, codes, bytes_eq, sym, subst, ap, ◌∙◌, refl, arith}
use Rattle.std.specs.Prelude.{IfOk, IfSome}
use Rattle.std.proofs.lemmas.{List.append-nil, Slice.Eq.bytes_eq-Decides}
use Rattle.json.specs.{Json.{value, members, read_key, parse_map}, Token.{Token, begin_object}}
use Rattle.json.proofs.Grammar.{value-begin_object, read_key-shorter}
use Rattle.serde_json.specs.{Data.{Data, array, object, Members, no_members, put}, Find.get_member, Read.{of_json, of_members, converted}, View.{items_of, members_view}}
use Rattle.ert_scenario.proofs.{Reading.{converted-object, member_read, members_over}, Cut.ops_of-without, Judged.judged_ok, Changed.{apart, put_named}, Listed.list_of_items}
use Rattle.serde_json.proofs.Views.{get_member-put, get_member-put_other}
use Rattle.ert_ops.specs.declared.op.Op.{Op}
use Rattle.ert_scenario.specs.{Fields.{is_field, are_named, only_named, start_and_first, modes, clock_fields_of, sizes_of, settings_from, top_of, format_of}, Kinds.{FoundOrFault, of_kind, listed}, Labels.tested, Lists.lists_found}
use Rattle.ert_scenario.specs.{Quick.ReadsOps, QuickMembers.{without_race, IsOpsField, HasSeenMembers, IsSeenAs, ReadsMember, IsPlanWith, plan_for_one}, Scenarios.{Plan, is_over, with_callers, judged, verdict_of}, Walked.without_fault}
use Rattle.ert_scenario.specs.{Walked.IsOver, Walks.{raws_of, all_raws, first_shape, first_range, ops_of}, declared.doer.ListDoer.TheVariants.Everyone, declared.fields.Top.Top, declared.format.Format.Format}
use Rattle.ert_scenario.specs.{declared.quick.members.Seen.Seen}

OPS : List ℕ
OPS = codes "ops"

-- ---- one member more

same_put_at : (b : Bool) (k name : List ℕ) (d : Data) (seen all : Members) → bytes_eq k name ≡ b → get_member k all ≡ get_member k seen
    → get_member k (put name d all) ≡ get_member k (put name d seen)
same_put_at true k name d seen all is same =
    let e : k ≡ name = (bytes_eq-Decides k name).0 is in
    rw e (get_member-put name d all ∙ sym (get_member-put name d seen))
same_put_at false k name d seen all is same =
    get_member-put_other k name d all (apart k name is) ∙ same ∙ sym (get_member-put_other k name d seen (apart k name is))

swapped : (a b : List ℕ) → bytes_eq a b ≡ false → b ≡ a → ⊥
swapped a b h e = apart a b h (sym e)

-- a field, which is seen as it is
pub sees_field : (format : Option Format) (ops : List Op) (name : List ℕ) (d : Data) (seen all : Members) → bytes_eq name (codes "ops") ≡ false
    → HasSeenMembers format ops seen all → HasSeenMembers format ops (put name d seen) (put name d all)
sees_field format ops name d seen all other s = record {
  others = λ k h. same_put_at (bytes_eq k name) k name d seen all refl (s.others k h);
  named = put_named (is_field false) name d all ∙ ap (λ rest. is_field false name && rest) s.named ∙ sym (put_named (is_field false) name d seen);
  listed = subst (IsOpsField format ops) (sym (get_member-put_other (codes "ops") name d all (swapped name (codes "ops") other))) s.listed;
}

-- the ops
pub sees_ops : (was format : Option Format) (read : Format) (before ops : List Op) (values : List Data) (seen all : Members) → format ≡ Some read
    → raws_of read Everyone values ≡ without_fault ops → HasSeenMembers was before seen all → HasSeenMembers format ops seen (put (codes "ops") (array (items_of values)) all)
sees_ops was format read before ops values seen all is are s = record {
  others = λ k h. get_member-put_other k (codes "ops") (array (items_of values)) all (apart k (codes "ops") h) ∙ s.others k h;
  named = put_named (is_field false) (codes "ops") (array (items_of values)) all ∙ s.named;
  listed = subst (λ f. IsOpsField f ops (get_member (codes "ops") (put (codes "ops") (array (items_of values)) all))) (sym is)
      (values, get_member-put (codes "ops") (array (items_of values)) all, are);
}

-- the list of ops as a member
pub member_ops : (old new : List Token) (format : Format) (was is : Seen) → ReadsOps format old new is.ops.items → is.fields ≡ was.fields → is.format ≡ Some format
    → ReadsMember (codes "ops") old new was is
member_ops old new format was is r same read = record {
  value_is = array (items_of r.values);
  reads = r.reads;
  sees = λ all s.
      subst (λ fields. HasSeenMembers is.format is.ops.items (members_view fields.entries) (put (codes "ops") (array (items_of r.values)) all)) (sym same)
      (sees_ops was.format is.format format was.ops.items is.ops.items r.values (members_view was.fields.entries) all read r.are s);
}

-- a field as a member
pub member_field : (name : List ℕ) (old new : List Token) (d : Data) (was is : Seen) → bytes_eq name (codes "ops") ≡ false
    → ((depth : ℕ) → converted of_json (value (suc depth) old) ≡ Some (d, new)) → members_view is.fields.entries ≡ put name d (members_view was.fields.entries)
    → is.format ≡ was.format → is.ops ≡ was.ops → ReadsMember name old new was is
member_field name old new d was is other reads at format ops = record {
  value_is = d;
  reads = λ depth. reads (suc depth);
  sees = λ all s.
      subst (λ f. HasSeenMembers f is.ops.items (members_view is.fields.entries) (put name d all)) (sym format)
      (subst (λ v. HasSeenMembers was.format v.items (members_view is.fields.entries) (put name d all)) (sym ops)
      (subst (λ ms. HasSeenMembers was.format was.ops.items ms (put name d all)) (sym at) (sees_field was.format was.ops.items name d (members_view was.fields.entries) all other s)));
}

-- ---- the members one after another

pub record MembersSoFar (initial reader : List Token) (seen : Seen) : Type 0 where
  pub n : ℕ
  pub enough : length reader ≤ n
  pub all : Members
  pub reads : (depth : ℕ)
      → converted (λ ms. of_members ms no_members) (members (value (suc (suc depth))) (length initial) initial)
      ≡ converted (λ ms. of_members ms all) (members (value (suc (suc depth))) n reader)
  pub sees : IsSeenAs seen all

no_ops : (format : Option Format) (ops : List Op) (found : Option Data) → format ≡ None → IsOpsField format ops found
no_ops None ops found h = tt
no_ops (Some f) ops found h = absurd (cc)

pub members_start : (ts : List Token) (seen : Seen) → seen.fields.entries ≡ [] → seen.format ≡ None → MembersSoFar ts ts seen
members_start ts seen none unread = record {
  n = length ts;
  enough = omega arith;
  all = no_members;
  reads = λ depth. refl;
  sees = record {
    others = λ k h. ap (λ es. get_member k (members_view es)) (sym none);
    named = ap (λ es. are_named (is_field false) (members_view es)) (sym none);
    listed = no_ops seen.format seen.ops.items _ unread;
  };
}

pub members_more : (initial ts s r : List Token) (name : List ℕ) (was is : Seen) → MembersSoFar initial ts was → read_key ts ≡ Some (Some name, s)
    → ReadsMember name s r was is → length r < length s → MembersSoFar initial r is
members_more initial ts s r name was is so_far key one less =
    let shorter : length s < length ts = read_key-shorter ts (Some name) s key in
    let enough = so_far.enough in
    record {
      n = so_far.n - 1;
      enough = omega arith;
      all = put name one.value_is so_far.all;
      reads = λ depth.
          so_far.reads depth ∙ member_read (value (suc (suc depth))) so_far.all so_far.n name ts s r one.value_is (omega arith) key (one.reads depth);
      sees = one.sees so_far.all so_far.sees;
    }

pub members_done : (initial ts r : List Token) (seen : Seen) → MembersSoFar initial ts seen → read_key ts ≡ Some (None, r)
    → (all : Members)
    × ((depth : ℕ) → converted (λ ms. of_members ms no_members) (members (value (suc (suc depth))) (length initial) initial) ≡ Some (all, r))
    × IsSeenAs seen all
members_done initial ts r seen s over =
    (s.all, (λ depth. s.reads depth ∙ members_over (value (suc (suc depth))) s.all s.n ts r s.enough over), s.sees)

-- the object of these members
pub object_read : (ts r : List Token) (all : Members)
    → ((depth : ℕ) → converted (λ ms. of_members ms no_members) (members (value (suc (suc depth))) (length ts) ts) ≡ Some (all, r))
    → converted of_json (value 127 (begin_object ∷ ts)) ≡ Some (object all, r)
object_read ts r all reads =
    ap (converted of_json) (value-begin_object 127 ts (omega arith)) ∙ converted-object (members (value 126) (length ts) ts)
    ∙ ap (parse_map object) (reads 124)

-- ---- the verdict

module _ (format : Option Format) (ops : List Op) (seen all : Members) (s : HasSeenMembers format ops seen all) where
  same_clock : clock_fields_of (object all) ≡ clock_fields_of (object seen)
  unfolding clock_fields_of start_and_first modes
  same_clock = rw (s.others (codes "start") refl, s.others (codes "first") refl, s.others (codes "mode") refl, s.others (codes "correction") refl) refl

  same_sizes : sizes_of (object all) ≡ sizes_of (object seen)
  unfolding sizes_of
  same_sizes = rw (s.others (codes "schedulers") refl, s.others (codes "processes") refl, s.others (codes "slots") refl) refl

  same_names : only_named (is_field false) (object all) ≡ only_named (is_field false) (object seen)
  unfolding only_named of_kind
  same_names = let same = s.named in rw same refl

  same_settings : settings_from false (object all) ≡ settings_from false (object seen)
  unfolding settings_from
  same_settings = rw (same_names, s.others (codes "format") refl, same_clock, same_sizes) refl

  same_top : top_of false (object all) ≡ top_of false (object seen)
  unfolding top_of
  same_top = rw same_settings refl

  same_format : format_of (object all) ≡ format_of (object seen)
  unfolding format_of
  same_format = rw (s.others (codes "format") refl) refl

  same_lists : (values : List Data) → get_member (codes "ops") all ≡ Some (array (items_of values)) → lists_found false (object all) ≡ Ok (without_race values)
  unfolding lists_found listed of_kind
  same_lists values h = rw (h, list_of_items values) refl

-- the verdict on an object whose members were seen so
pub verdict_seen : (read : Option Format) (format : Format) (ops : List Op) (top : Top) (plan : Plan) (seen all : Members) (d : Data) → d ≡ object seen → read ≡ Some format
    → format_of d ≡ format → top_of false d ≡ Ok top → IsPlanWith top ops plan → HasSeenMembers read ops seen all → verdict_of false (object all) ≡ Ok plan
unfolding verdict_of
verdict_seen read format ops top plan seen all d at by is opens judges sees =
    let s : HasSeenMembers (Some format) ops seen all = subst (λ o. HasSeenMembers o ops seen all) by sees in
    let values = s.listed.0 in
    let reads : format_of (object all) ≡ format = same_format (Some format) ops seen all s ∙ ap format_of (sym at) ∙ is in
    let lists : lists_found false (object all) ≡ Ok (without_race values) = same_lists (Some format) ops seen all s values s.listed.1 in
    let tops : top_of false (object all) ≡ Ok top = same_top (Some format) ops seen all s ∙ ap (top_of false) (sym at) ∙ opens in
    rw (reads, lists, tops) (judges format values (append-nil (raws_of format Everyone values) ∙ s.listed.2))

-- ---- ops without a fault

no_shape : (ops : List Op) (k : ℕ) → first_shape k (without_fault ops) ≡ None
no_shape [] k = refl
no_shape (op ∷ ops) k = no_shape ops (k + 1)

over_of : (ops : List Op) (all : List (FoundOrFault Op)) → all ≡ without_fault ops → IsOver ops None all
over_of ops all h = record {
  shape = ap (first_shape 1) h ∙ no_shape ops 1;
  faulty = λ place never. absurd (cc);
  faultless = λ none. h;
}

plain_made : (top : Top) (raws : List (FoundOrFault Op)) (kept : List Op) → raws ≡ without_fault kept
    → plan_for_one top.settings kept ≡ record { settings = with_callers 1 top.settings; ops = ops_of raws; race = None }
plain_made top raws kept h = ap (plan_for_one top.settings) (sym (ap ops_of h ∙ ops_of-without kept))

-- of these the first range fault is none
pub plain_judged : (format : Format) (values : List Data) (top : Top) (ops : List Op) (range : Option ℕ)
    → all_raws format (without_race values) ≡ without_fault ops
    → ((all : List (FoundOrFault Op)) → IsOver ops None all → range ≡ first_range 1 (tested top.settings [] all)) → is_some range ≡ false
    → is_over (length ops) 0 top.turns ≡ false
    → judged format (without_race values) (Ok top) (tested top.settings [] (all_raws format (without_race values))) ≡ Ok (plan_for_one top.settings ops)
plain_judged format values top ops None h found none few =
    let all = all_raws format (without_race values) in
    let over = over_of ops all h in
    let raws : raws_of format Everyone values ≡ without_fault ops = sym (append-nil (raws_of format Everyone values)) ∙ h in
    judged_ok format (without_race values) top ops None all (plan_for_one top.settings ops) over (sym (found all over)) few
    (plain_made top (raws_of format Everyone values) ops raws)
plain_judged format values top ops (Some place) h found none few = absurd (cc)

-- ---- what is found, where it is

pub under : {S E : Type 0} (P Q : S → Type 0) (r : Result (Option S) E) → ((s : S) → P s → Q s) → IfOk r (λ o. IfSome o P) → IfOk r (λ o. IfSome o Q)
under P Q (Ok (Some s)) f h = f s h
under P Q (Ok None) f h = h
under P Q (Err e) f h = h
