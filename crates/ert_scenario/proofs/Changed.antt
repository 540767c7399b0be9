-- A value with a field changed, and a list with each item changed.

use Rattle.std.proofs.Common.{◌≡◌, ℕ, List, [], ◌∷◌, map, Bool, true, false, ◌&&◌, Option, Some, None, option_map, Ok, Err, Ordering, Less, Equal, Greater, nat_cmp, bytes_eq, cond, sym, ap, ◌∙◌, refl, true≢false}
use Rattle.std.proofs.lemmas.{Map.Text.is_eq-slice_cmp, Slice.Eq.bytes_eq-Decides}
use Rattle.std.specs.{Cmp.Lexicographic.slice_cmp, List.list_all, Ordering.{match_ordering, is_eq}}
use Rattle.serde_json.specs.{Data.{Data, array, object, Members, no_members, member, put}, Find.{get, get_member}}
use Rattle.serde_json.proofs.Views.{get_member-put, get_member-put_other}
use Rattle.ert_scenario.specs.{Fields.{are_named, only_named}, Migration.{migrated_op, each, migrated_list, with_field, changed_to, changed}, declared.fault.Fault.TheVariants.Shape}
use Rattle.ert_scenario.specs.Kinds.{FoundOrFault, found_map, ◌>>=◌, of_kind, listed, list_of, is_array, arrays}
use Rattle.ert_scenario.proofs.Listed.{list_of_items}

pub apart : (a b : List ℕ) → bytes_eq a b ≡ false → a ≡ b → ⊥
apart a b h e = true≢false (sym ((bytes_eq-Decides a b).1 e) ∙ h)

named_twice : (a b : Bool) → (a && (a && b)) ≡ (a && b)
named_twice true b = refl
named_twice false b = refl

named_other : (a b c : Bool) → (a && c) ≡ c → (a && (b && c)) ≡ (b && c)
named_other true b c h = refl
named_other false true c h = h
named_other false false c h = refl

has_named_at : (o : Ordering) (is : List ℕ → Bool) (k l : List ℕ) (e v : Data) (ms : Members) → slice_cmp nat_cmp k l ≡ o
    → (get_member k ms ≡ Some v → (is k && are_named is ms) ≡ are_named is ms) → match_ordering o (get_member k ms) (Some e) (get_member k ms) ≡ Some v
    → (is k && (is l && are_named is ms)) ≡ (is l && are_named is ms)
has_named_at Less is k l e v ms h later found = named_other (is k) (is l) (are_named is ms) (later found)
has_named_at Equal is k l e v ms h later found =
    let same : k ≡ l = (bytes_eq-Decides k l).0 (sym (is_eq-slice_cmp k l) ∙ ap is_eq h) in
    ap (λ (n : List ℕ). is n && (is l && are_named is ms)) same ∙ named_twice (is l) (are_named is ms)
has_named_at Greater is k l e v ms h later found = named_other (is k) (is l) (are_named is ms) (later found)

-- the name of a member is one of those of all
has_named : (is : List ℕ → Bool) (k : List ℕ) (v : Data) (ms : Members) → get_member k ms ≡ Some v → (is k && are_named is ms) ≡ are_named is ms
unfolding are_named
has_named is k v no_members found = absurd (cc)
has_named is k v (member l e ms) found = has_named_at (slice_cmp nat_cmp k l) is k l e v ms refl (has_named is k v ms) found

put_named_at : (o : Ordering) (is : List ℕ → Bool) (k l : List ℕ) (d e : Data) (ms : Members) → slice_cmp nat_cmp k l ≡ o
    → (are_named is (put k d ms) ≡ (is k && are_named is ms)) → are_named is (match_ordering o (member k d (member l e ms)) (member l d ms) (member l e (put k d ms)))
    ≡ (is k && are_named is (member l e ms))
unfolding are_named
put_named_at Less is k l d e ms h later = refl
put_named_at Equal is k l d e ms h later =
    let same : k ≡ l = (bytes_eq-Decides k l).0 (sym (is_eq-slice_cmp k l) ∙ ap is_eq h) in
    sym (ap (λ (n : List ℕ). is n && (is l && are_named is ms)) same ∙ named_twice (is l) (are_named is ms))
put_named_at Greater is k l d e ms h later = ap (λ rest. is l && rest) later ∙ swapped (is l) (is k) (are_named is ms)
  where
    swapped : (a b c : Bool) → (a && (b && c)) ≡ (b && (a && c))
    swapped true b c = refl
    swapped false true c = refl
    swapped false false c = refl

-- the names of the members with one put
pub put_named : (is : List ℕ → Bool) (k : List ℕ) (d : Data) (ms : Members) → are_named is (put k d ms) ≡ (is k && are_named is ms)
unfolding are_named
put_named is k d no_members = refl
put_named is k d (member l e ms) = put_named_at (slice_cmp nat_cmp k l) is k l d e ms refl (put_named is k d ms)

-- ---- a value with a field changed

other_at : (k name : List ℕ) (change : Data → Data) (o : Option Data) (d : Data) → bytes_eq k name ≡ false → get k (changed_to name change o d) ≡ get k d
unfolding with_field
other_at k name change None d h = refl
other_at k name change (Some v) (object ms) h = get_member-put_other k name (change v) ms (apart k name h)
other_at k name change (Some v) _ h = refl

pub other_field : (k name : List ℕ) (change : Data → Data) (d : Data) → bytes_eq k name ≡ false → get k (changed name change d) ≡ get k d
unfolding changed
other_field k name change d h = other_at k name change (get name d) d h

same_at : (name : List ℕ) (change : Data → Data) (o : Option Data) (d : Data) → get name d ≡ o → get name (changed_to name change o d) ≡ option_map change o
unfolding with_field
same_at name change None d h = h
same_at name change (Some v) (object ms) h = get_member-put name (change v) ms
same_at name change (Some v) _ h = absurd (cc)

pub this_field : (name : List ℕ) (change : Data → Data) (d : Data) → get name (changed name change d) ≡ option_map change (get name d)
unfolding changed
this_field name change d = same_at name change (get name d) d refl

named_at : (is : List ℕ → Bool) (name : List ℕ) (change : Data → Data) (o : Option Data) (d : Data) → get name d ≡ o
    → only_named is (changed_to name change o d) ≡ only_named is d
unfolding with_field only_named of_kind
named_at is name change None d h = refl
named_at is name change (Some v) (object ms) h = let same : are_named is (put name (change v) ms) ≡ are_named is ms = put_named is name (change v) ms ∙ has_named is name v ms h in rw same refl
named_at is name change (Some v) _ h = refl

pub same_names : (is : List ℕ → Bool) (name : List ℕ) (change : Data → Data) (d : Data) → only_named is (changed name change d) ≡ only_named is d
unfolding changed
same_names is name change d = named_at is name change (get name d) d refl

-- ---- a list changed

pub each_listed : (change : Data → Data) (o : Option Data) → listed (option_map (each change) o) ≡ found_map (map change) (listed o)
unfolding listed of_kind each
each_listed change None = refl
each_listed change (Some (array ds)) = ap Ok (list_of_items (map change (list_of ds)))
each_listed change (Some _) = refl

array_each : (change : Data → Data) (d : Data) → is_array (each change d) ≡ is_array d
unfolding each
array_each change (array ds) = refl
array_each change _ = refl

all_arrays_each : (ds : List Data) → list_all is_array (map migrated_list ds) ≡ list_all is_array ds
all_arrays_each [] = refl
all_arrays_each (d ∷ ds) = ap (λ b. b && list_all is_array (map migrated_list ds)) (array_each migrated_op d) ∙ ap (λ rest. is_array d && rest) (all_arrays_each ds)

arrays_from : (found : FoundOrFault (List Data)) → (found_map (map migrated_list) found >>= (λ lists. cond (list_all is_array lists) (Ok lists) (Err Shape)))
    ≡ found_map (map migrated_list) (found >>= (λ lists. cond (list_all is_array lists) (Ok lists) (Err Shape)))
arrays_from (Ok ds) = ap (λ b. cond b (Ok (map migrated_list ds)) (Err Shape)) (all_arrays_each ds) ∙ moved_if (list_all is_array ds) ds
  where
    moved_if : (is : Bool) (ds : List Data) → cond is (Ok (map migrated_list ds)) (Err Shape) ≡ found_map (map migrated_list) (cond is (Ok ds) (Err Shape))
    moved_if true ds = refl
    moved_if false ds = refl
arrays_from (Err fault) = refl

pub each_arrays : (o : Option Data) → arrays (option_map (each migrated_list) o) ≡ found_map (map migrated_list) (arrays o)
unfolding arrays
each_arrays o =
    ap (λ (found : FoundOrFault (List Data)). found >>= (λ lists. cond (list_all is_array lists) (Ok lists) (Err Shape))) (each_listed migrated_list o) ∙ arrays_from (listed o)
