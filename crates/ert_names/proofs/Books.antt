-- A registry's two maps: what they have after a change, and that they stay the same pairs, each way round.

use Rattle.std.proofs.Common.{◌≡◌, ℕ, Bool, true, false, cond, nat_eq, List, [], ◌∷◌, map, Option, Some, None, String, string_bytes, refl, sym, ap, ◌∙◌}
use Rattle.std.specs.BTreeMap as tree
use Rattle.std.specs.{BTreeMap.{BTreeMap, is_at}, Cmp.{nat_cmp_total, eq_by_cmp_equiv, Equal-is}, Cmp.Lexicographic.{slice_cmp, nat_list_cmp_total}, Map.lookup, Option.{is_some, option_map}, Ordering.{nat_cmp, eq_by_cmp}, Str.bytes_eq}
use Rattle.std.specs.{String.string_cmp, declared.alloc.Global.Global}
use Rattle.std.specs.FinMap as finite
use Rattle.std.proofs.lemmas.{Bool.{eqb-true, eq-eqb}, Map.Text.{btree_map_updates_text, is_eq-slice_cmp}}
use Rattle.ert_names.specs.Names.{Names, Named, AreInverse, Unnamed, IsWithout, other_than, processes_of, names_of}

abbrev by_bytes : List ℕ → List ℕ → Bool
by_bytes = eq_by_cmp (slice_cmp nat_cmp)

abbrev by_number : ℕ → ℕ → Bool
by_number = eq_by_cmp nat_cmp

-- what a map of a registry has, by its entries
found_name : (q : List ℕ) (es : List (String Global × ℕ))
    → finite.find (slice_cmp nat_cmp) q (map (λ e. (string_bytes e.0, e.1)) es) ≡ lookup (is_at (λ k. slice_cmp nat_cmp q (string_bytes k))) es
found_name q [] = refl
found_name q (e ∷ es) = ap (cond (by_bytes q (string_bytes e.0)) (Some e.1)) (found_name q es)

pub get_name : (es : List (String Global × ℕ)) (q : List ℕ)
    → finite.get (processes_of es) q ≡ lookup (is_at (λ k. slice_cmp nat_cmp q (string_bytes k))) es
get_name es q = finite.get-from_entries nat_list_cmp_total (map (λ e. (string_bytes e.0, e.1)) es) q ∙ found_name q es

found_named : (q : ℕ) (es : List (ℕ × String Global))
    → finite.find nat_cmp q (map (λ e. (e.0, string_bytes e.1)) es) ≡ option_map string_bytes (lookup (is_at (nat_cmp q)) es)
found_named q [] = refl
found_named q (e ∷ es) = at (by_number q e.0) (found_named q es)
  where
    at : (b : Bool) → finite.find nat_cmp q (map (λ e. (e.0, string_bytes e.1)) es) ≡ option_map string_bytes (lookup (is_at (nat_cmp q)) es)
        → cond b (Some (string_bytes e.1)) (finite.find nat_cmp q (map (λ e. (e.0, string_bytes e.1)) es))
        ≡ option_map string_bytes (cond b (Some e.1) (lookup (is_at (nat_cmp q)) es))
    at true rest = refl
    at false rest = rest

pub get_named : (es : List (ℕ × String Global)) (q : ℕ) → finite.get (names_of es) q ≡ option_map string_bytes (lookup (is_at (nat_cmp q)) es)
get_named es q = finite.get-from_entries nat_cmp_total (map (λ e. (e.0, string_bytes e.1)) es) q ∙ found_named q es

-- equal keys, as the orders tell them
equal_bytes : (x y : List ℕ) → by_bytes x y ≡ true → x ≡ y
equal_bytes x y is = finite.slice_cmp-IsAntisymmetric finite.nat_cmp-IsAntisymmetric x y ((Equal-is (slice_cmp nat_cmp x y)).0 is)

equal_number : (x y : ℕ) → by_number x y ≡ true → x ≡ y
equal_number x y is = finite.nat_cmp-IsAntisymmetric x y ((Equal-is (nat_cmp x y)).0 is)

same_bytes : (x : List ℕ) → by_bytes x x ≡ true
same_bytes x = (eq_by_cmp_equiv nat_list_cmp_total).refl x

turned : (x y : List ℕ) → bytes_eq x y ≡ by_bytes y x
turned x y = sym (is_eq-slice_cmp x y) ∙ (eq_by_cmp_equiv nat_list_cmp_total).symm x y

same_number : (x : ℕ) → by_number x x ≡ true
same_number x = (eq_by_cmp_equiv nat_cmp_total).refl x

pub some_is : {X : Type 0} (x y : X) → Some x ≡ Some y → x ≡ y
some_is x y is = ap (λ o. at o x) is
  where
    at : {X : Type 0} → Option X → X → X
    at None d = d
    at (Some x) d = x

-- a name is added to a map, or taken out of it
pub names_set : (m n : BTreeMap (String Global) ℕ) (name : List ℕ) (v : ℕ)
    → tree.UpdatesBy string_cmp (λ k. slice_cmp nat_cmp name (string_bytes k)) m n (Some v)
    → processes_of n.entries ≡ finite.insert (processes_of m.entries) name v
names_set m n name v sets =
    finite.same_map nat_list_cmp_total (finite.slice_cmp-IsAntisymmetric finite.nat_cmp-IsAntisymmetric) _ _
    (λ q. get_name n.entries q ∙ (btree_map_updates_text name m n (Some v) sets q
    ∙ (ap (λ b. cond b (Some v) (tree.get_by_text m q)) (turned name q)
    ∙ (ap (λ o. cond (by_bytes q name) (Some v) o) (sym (get_name m.entries q))
    ∙ sym (finite.get-insert nat_list_cmp_total (processes_of m.entries) name v q)))))

pub names_unset : (m n : BTreeMap (String Global) ℕ) (name : List ℕ)
    → tree.UpdatesBy string_cmp (λ k. slice_cmp nat_cmp name (string_bytes k)) m n None
    → processes_of n.entries ≡ finite.remove (processes_of m.entries) name
names_unset m n name unsets =
    finite.same_map nat_list_cmp_total (finite.slice_cmp-IsAntisymmetric finite.nat_cmp-IsAntisymmetric) _ _
    (λ q. get_name n.entries q ∙ (btree_map_updates_text name m n None unsets q
    ∙ (ap (λ b. cond b None (tree.get_by_text m q)) (turned name q)
    ∙ (ap (λ o. cond (by_bytes q name) None o) (sym (get_name m.entries q))
    ∙ sym (finite.get-remove nat_list_cmp_total (processes_of m.entries) name q)))))

mapped : (b : Bool) (s o : Option (String Global)) → option_map string_bytes (cond b s o) ≡ cond b (option_map string_bytes s) (option_map string_bytes o)
mapped true s o = refl
mapped false s o = refl

-- a process is added to the other map, or taken out of it
pub named_set : (m n : BTreeMap ℕ (String Global)) (p : ℕ) (s : String Global) → tree.Updates nat_cmp m n p (Some s)
    → names_of n.entries ≡ finite.insert (names_of m.entries) p (string_bytes s)
named_set m n p s sets =
    finite.same_map nat_cmp_total finite.nat_cmp-IsAntisymmetric _ _
    (λ q. get_named n.entries q ∙ (ap (option_map string_bytes) (sets.0 q)
    ∙ (mapped (by_number p q) (Some s) (tree.get nat_cmp m q)
    ∙ (ap (λ b. cond b (Some (string_bytes s)) (option_map string_bytes (tree.get nat_cmp m q))) ((eq_by_cmp_equiv nat_cmp_total).symm p q)
    ∙ (ap (λ o. cond (by_number q p) (Some (string_bytes s)) o) (sym (get_named m.entries q))
    ∙ sym (finite.get-insert nat_cmp_total (names_of m.entries) p (string_bytes s) q))))))

pub named_unset : (m n : BTreeMap ℕ (String Global)) (p : ℕ) → tree.UpdatesBy nat_cmp (nat_cmp p) m n None
    → names_of n.entries ≡ finite.remove (names_of m.entries) p
named_unset m n p unsets =
    finite.same_map nat_cmp_total finite.nat_cmp-IsAntisymmetric _ _
    (λ q. get_named n.entries q ∙ (ap (option_map string_bytes) (unsets.0 q)
    ∙ (mapped (by_number p q) None (tree.get nat_cmp m q)
    ∙ (ap (λ b. cond b None (option_map string_bytes (tree.get nat_cmp m q))) ((eq_by_cmp_equiv nat_cmp_total).symm p q)
    ∙ (ap (λ o. cond (by_number q p) None o) (sym (get_named m.entries q))
    ∙ sym (finite.get-remove nat_cmp_total (names_of m.entries) p q))))))

-- both maps stay the same pairs where a free name is given to a process without one, and where a pair goes
pub inverse_insert : (names : Names) (named : Named) (name : List ℕ) (p : ℕ) → AreInverse names named → finite.get names name ≡ None → Unnamed names p
    → AreInverse (finite.insert names name p) (finite.insert named p name)
inverse_insert names named name p inverse free unnamed = record { there = there; back = back }
  where
    in_names : (n : List ℕ) → finite.get (finite.insert names name p) n ≡ cond (by_bytes n name) (Some p) (finite.get names n)
    in_names n = finite.get-insert nat_list_cmp_total names name p n

    in_named : (q : ℕ) → finite.get (finite.insert named p name) q ≡ cond (by_number q p) (Some name) (finite.get named q)
    in_named q = finite.get-insert nat_cmp_total named p name q

    there_at : (n : List ℕ) (q : ℕ) (b d : Bool) → by_bytes n name ≡ b → by_number q p ≡ d → cond b (Some p) (finite.get names n) ≡ Some q
        → cond d (Some name) (finite.get named q) ≡ Some n
    there_at n q true true is_name is_p got = ap Some (sym (equal_bytes n name is_name))
    there_at n q true false is_name is_p got =
        let same : q ≡ p = sym (some_is p q got) in
        let no : true ≡ false = sym (ap (λ x. by_number x p) same ∙ same_number p) ∙ is_p in
        absurd cc
    there_at n q false true is_name is_p got = absurd (unnamed n (got ∙ ap Some (equal_number q p is_p)))
    there_at n q false false is_name is_p got = inverse.there n q got

    there : (n : List ℕ) (q : ℕ) → finite.get (finite.insert names name p) n ≡ Some q → finite.get (finite.insert named p name) q ≡ Some n
    there n q got = in_named q ∙ there_at n q (by_bytes n name) (by_number q p) refl refl (sym (in_names n) ∙ got)

    back_at : (n : List ℕ) (q : ℕ) (b d : Bool) → by_bytes n name ≡ b → by_number q p ≡ d → cond d (Some name) (finite.get named q) ≡ Some n
        → cond b (Some p) (finite.get names n) ≡ Some q
    back_at n q true true is_name is_p got = ap Some (sym (equal_number q p is_p))
    back_at n q false true is_name is_p got =
        let same : n ≡ name = sym (some_is name n got) in
        let no : true ≡ false = sym (ap (λ x. by_bytes x name) same ∙ same_bytes name) ∙ is_name in
        absurd cc
    back_at n q true false is_name is_p got =
        let taken : finite.get names name ≡ Some q = ap (finite.get names) (sym (equal_bytes n name is_name)) ∙ inverse.back n q got in
        let no : None ≡ Some q = sym free ∙ taken in
        absurd cc
    back_at n q false false is_name is_p got = inverse.back n q got

    back : (n : List ℕ) (q : ℕ) → finite.get (finite.insert named p name) q ≡ Some n → finite.get (finite.insert names name p) n ≡ Some q
    back n q got = in_names n ∙ back_at n q (by_bytes n name) (by_number q p) refl refl (sym (in_named q) ∙ got)

pub inverse_remove : (names : Names) (named : Named) (name : List ℕ) (p : ℕ) → AreInverse names named → finite.get names name ≡ Some p
    → AreInverse (finite.remove names name) (finite.remove named p)
inverse_remove names named name p inverse has = record { there = there; back = back }
  where
    in_names : (n : List ℕ) → finite.get (finite.remove names name) n ≡ cond (by_bytes n name) None (finite.get names n)
    in_names n = finite.get-remove nat_list_cmp_total names name n

    in_named : (q : ℕ) → finite.get (finite.remove named p) q ≡ cond (by_number q p) None (finite.get named q)
    in_named q = finite.get-remove nat_cmp_total named p q

    there_at : (n : List ℕ) (q : ℕ) (b d : Bool) → by_bytes n name ≡ b → by_number q p ≡ d → cond b None (finite.get names n) ≡ Some q
        → cond d None (finite.get named q) ≡ Some n
    there_at n q true d is_name is_p got = absurd cc
    there_at n q false true is_name is_p got =
        let mine : finite.get named p ≡ Some n = ap (finite.get named) (sym (equal_number q p is_p)) ∙ inverse.there n q got in
        let same : n ≡ name = some_is n name (sym mine ∙ inverse.there name p has) in
        let no : true ≡ false = sym (ap (λ x. by_bytes x name) same ∙ same_bytes name) ∙ is_name in
        absurd cc
    there_at n q false false is_name is_p got = inverse.there n q got

    there : (n : List ℕ) (q : ℕ) → finite.get (finite.remove names name) n ≡ Some q → finite.get (finite.remove named p) q ≡ Some n
    there n q got = in_named q ∙ there_at n q (by_bytes n name) (by_number q p) refl refl (sym (in_names n) ∙ got)

    back_at : (n : List ℕ) (q : ℕ) (b d : Bool) → by_bytes n name ≡ b → by_number q p ≡ d → cond d None (finite.get named q) ≡ Some n
        → cond b None (finite.get names n) ≡ Some q
    back_at n q b true is_name is_p got = absurd cc
    back_at n q true false is_name is_p got =
        let mine : finite.get names name ≡ Some q = ap (finite.get names) (sym (equal_bytes n name is_name)) ∙ inverse.back n q got in
        let same : q ≡ p = some_is q p (sym mine ∙ has) in
        let no : true ≡ false = sym (ap (λ x. by_number x p) same ∙ same_number p) ∙ is_p in
        absurd cc
    back_at n q false false is_name is_p got = inverse.back n q got

    back : (n : List ℕ) (q : ℕ) → finite.get (finite.remove named p) q ≡ Some n → finite.get (finite.remove names name) n ≡ Some q
    back n q got = in_names n ∙ back_at n q (by_bytes n name) (by_number q p) refl refl (sym (in_named q) ∙ got)

-- what was added and taken out again
pub unset_again : (names : Names) (name : List ℕ) (p : ℕ) → finite.get names name ≡ None → finite.remove (finite.insert names name p) name ≡ names
unset_again names name p free =
    finite.same_map nat_list_cmp_total (finite.slice_cmp-IsAntisymmetric finite.nat_cmp-IsAntisymmetric) _ _
    (λ q. finite.get-remove nat_list_cmp_total (finite.insert names name p) name q
    ∙ (ap (cond (by_bytes q name) None) (finite.get-insert nat_list_cmp_total names name p q) ∙ at q (by_bytes q name) refl))
  where
    at : (q : List ℕ) (b : Bool) → by_bytes q name ≡ b → cond b None (cond b (Some p) (finite.get names q)) ≡ finite.get names q
    at q true is = sym (ap (finite.get names) (equal_bytes q name is) ∙ free)
    at q false is = refl

-- the name of a process goes
pub without_name : (names : Names) (named : Named) (name : List ℕ) (p : ℕ) → AreInverse names named → finite.get names name ≡ Some p
    → IsWithout names p (finite.remove names name)
without_name names named name p inverse has q =
    finite.get-remove nat_list_cmp_total names name q ∙ at (by_bytes q name) (finite.get names q) refl refl
  where
    other : (r : ℕ) (d : Bool) → nat_eq r p ≡ d → by_bytes q name ≡ false → finite.get names q ≡ Some r → Some r ≡ cond d None (Some r)
    other r false apart_number apart got = refl
    other r true is apart got =
        let mine : finite.get names q ≡ Some p = got ∙ ap Some (eqb-true r p is) in
        let same : q ≡ name = some_is q name (sym (inverse.there q p mine) ∙ inverse.there name p has) in
        let no : true ≡ false = sym (ap (λ x. by_bytes x name) same ∙ same_bytes name) ∙ apart in
        absurd cc

    at : (b : Bool) (o : Option ℕ) → by_bytes q name ≡ b → finite.get names q ≡ o → cond b None (finite.get names q) ≡ other_than p (finite.get names q)
    at true o is got = sym (ap (other_than p) (ap (finite.get names) (equal_bytes q name is) ∙ has) ∙ ap (λ d. cond d None (Some p)) (eq-eqb p p refl))
    at false None is got = rw got refl
    at false (Some r) is got = rw got (other r (nat_eq r p) refl is got)

-- a process without a name has none to go
pub without_none : (names : Names) (named : Named) (p : ℕ) → AreInverse names named → finite.get named p ≡ None → IsWithout names p names
without_none names named p inverse none q = at (finite.get names q) refl
  where
    other : (r : ℕ) (d : Bool) → nat_eq r p ≡ d → finite.get names q ≡ Some r → Some r ≡ cond d None (Some r)
    other r false apart got = refl
    other r true is got =
        let mine : finite.get named p ≡ Some q = inverse.there q p (got ∙ ap Some (eqb-true r p is)) in
        let no : None ≡ Some q = sym none ∙ mine in
        absurd cc

    at : (o : Option ℕ) → finite.get names q ≡ o → o ≡ other_than p o
    at None got = refl
    at (Some r) got = other r (nat_eq r p) refl got

pub unnamed_none : (names : Names) (named : Named) (p : ℕ) → AreInverse names named → finite.get named p ≡ None → Unnamed names p
unnamed_none names named p inverse none = λ name got. (let no : None ≡ Some name = sym none ∙ inverse.there name p got in absurd cc)

pub inverse_empty : (es : List (String Global × ℕ)) (fs : List (ℕ × String Global)) → es ≡ [] → fs ≡ [] → AreInverse (processes_of es) (names_of fs)
inverse_empty es fs none_there none_back = record {
  there = λ name p got. (let no : None ≡ Some p = sym (get_name es name ∙ ap (lookup (is_at (λ k. slice_cmp nat_cmp name (string_bytes k)))) none_there) ∙ got in absurd cc);
  back = λ name p got. (let no : None ≡ Some name = sym (get_named fs p ∙ ap (λ l. option_map string_bytes (lookup (is_at (nat_cmp p)) l)) none_back) ∙ got in absurd cc);
}

-- whether a process is in the other map
pub not_named : (es : List (String Global × ℕ)) (fs : List (ℕ × String Global)) (p : ℕ) → AreInverse (processes_of es) (names_of fs)
    → is_some (lookup (is_at (nat_cmp p)) fs) ≡ false → Unnamed (processes_of es) p
not_named es fs p inverse none = unnamed_none (processes_of es) (names_of fs) p inverse (get_named fs p ∙ at (lookup (is_at (nat_cmp p)) fs) none)
  where
    at : (o : Option (String Global)) → is_some o ≡ false → option_map string_bytes o ≡ None
    at None none = refl
    at (Some s) none = absurd cc

pub is_named : (es : List (String Global × ℕ)) (fs : List (ℕ × String Global)) (p : ℕ) → AreInverse (processes_of es) (names_of fs)
    → is_some (lookup (is_at (nat_cmp p)) fs) ≡ true → Unnamed (processes_of es) p → ⊥
is_named es fs p inverse some unnamed = at (lookup (is_at (nat_cmp p)) fs) refl some
  where
    at : (o : Option (String Global)) → lookup (is_at (nat_cmp p)) fs ≡ o → is_some o ≡ true → ⊥
    at None is some = absurd cc
    at (Some s) is some = unnamed (string_bytes s) (inverse.back (string_bytes s) p (get_named fs p ∙ ap (option_map string_bytes) is))
