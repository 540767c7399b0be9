-- No two starts among the tested ops of a list have one label.

use Rattle.std.proofs.Common.{◌≡◌, ◌≢◌, ◌<◌, ℕ, zero, suc, List, [], ◌∷◌, ◌++◌, length, take, get_or, All, AllPairs, Bool, true, false, not, ◌&&◌, ◌||◌, Option, Some, None, Ok, Err, eqb, sym, subst, ap, arith, refl}
use Rattle.std.proofs.{lemmas.List.length-append, lemmas.List.Elements.{All-take, All-same}, lemmas.List.Kept.AllPairs-cons, Math.Seq.take-append_seam, lemmas.Bool.and_parts, lemmas.Bool.Decides.nat_tests}
use Rattle.ert_defs.proofs.Lists.{pairs_head, pairs_tail}
use Rattle.ert_defs.specs.declared.settings.Settings.{Settings}
use Rattle.ert_ops.specs.{Labels.{labels_in, AreOps}, declared.op.Op.Op, declared.op.Op.TheVariants.{Start, SendAfter}}
use Rattle.ert_scenario.specs.{Kinds.{FoundOrFault, if_in_range}, Labels.{started_label, has, is_new, with_label, tested}, Ranges.is_op, Walks.ops_of}

-- these labels are apart from one another, and none is among the earlier ones
pub record AreNew (earlier labels : List ℕ) : Type 0 where
  pub apart : AllPairs (λ (l : ℕ) k. l ≢ k) labels
  pub new : (i d : ℕ) → i < length labels → has earlier (get_or labels i d) ≡ false

no_new : (earlier : List ℕ) → AreNew earlier []
no_new earlier = record { apart = λ i j d lt le. absurd (omega arith); new = λ i d lt. absurd (omega arith) }

or_false : (a b : Bool) → (a || b) ≡ false → (a ≡ false) × (b ≡ false)
or_false true b h = absurd (cc)
or_false false b h = (refl, h)

not_same : (l k : ℕ) → eqb k l ≡ false → l ≢ k
not_same l k h = grind (arith, nat_tests)

not_has : (l k : ℕ) (earlier : List ℕ) → has (l ∷ earlier) k ≡ false → (l ≢ k) × (has earlier k ≡ false)
not_has l k earlier h = let parts = or_false (eqb k l) (has earlier k) h in (not_same l k parts.0, parts.1)

pairs_cons : (l : ℕ) (labels : List ℕ) → ((i d : ℕ) → i < length labels → l ≢ get_or labels i d) → AllPairs (λ (a : ℕ) b. a ≢ b) labels
    → AllPairs (λ (a : ℕ) b. a ≢ b) (l ∷ labels)
pairs_cons l labels first others i zero d lt le = absurd (omega arith)
pairs_cons l labels first others zero (suc j) d lt le = first j d (omega arith)
pairs_cons l labels first others (suc i) (suc j) d lt le = others i j d (omega arith) (omega arith)

new_cons : (earlier : List ℕ) (l : ℕ) (labels : List ℕ) → has earlier l ≡ false → ((i d : ℕ) → i < length labels → has earlier (get_or labels i d) ≡ false)
    → (i d : ℕ) → i < length (l ∷ labels) → has earlier (get_or (l ∷ labels) i d) ≡ false
new_cons earlier l labels new others zero d lt = new
new_cons earlier l labels new others (suc i) d lt = others i d (omega arith)

one_more : (earlier : List ℕ) (l : ℕ) (labels : List ℕ) → has earlier l ≡ false → AreNew (l ∷ earlier) labels → AreNew earlier (l ∷ labels)
one_more earlier l labels new others = record {
  apart = pairs_cons l labels (λ i d lt. (not_has l (get_or labels i d) earlier (others.new i d lt)).0) others.apart;
  new = new_cons earlier l labels new (λ i d lt. (not_has l (get_or labels i d) earlier (others.new i d lt)).1);
}

fewer_earlier : (earlier : List ℕ) (o : Option ℕ) (labels : List ℕ) → AreNew (with_label earlier o) labels → AreNew earlier labels
fewer_earlier earlier None labels h = h
fewer_earlier earlier (Some l) labels h = record { apart = h.apart; new = λ i d lt. (not_has l (get_or labels i d) earlier (h.new i d lt)).1 }

labels_one : (op : Op) (ops : List Op) (P : List ℕ → Type 0) → ((l : ℕ) → started_label op ≡ Some l → P (l ∷ labels_in ops)) → (started_label op ≡ None → P (labels_in ops))
    → P (labels_in (op ∷ ops))
unfolding started_label
labels_one (Start l wheel when dest msg) ops P some none = some l refl
labels_one (SendAfter l wheel when dest msg) ops P some none = some l refl
labels_one _ ops P some none = none refl

not_false : (b : Bool) → not b ≡ true → b ≡ false
not_false true h = cc
not_false false h = refl

new_step : (earlier : List ℕ) (op : Op) (fits : Bool) (rest : List (FoundOrFault Op)) → (fits ≡ true → is_new earlier (started_label op) ≡ true)
    → AreNew (with_label earlier (started_label op)) (labels_in (ops_of rest)) → AreNew earlier (labels_in (ops_of (if_in_range fits op ∷ rest)))
unfolding if_in_range
new_step earlier op false rest new others = fewer_earlier earlier (started_label op) (labels_in (ops_of rest)) others
new_step earlier op true rest new others =
    labels_one op (ops_of rest) (AreNew earlier)
    (λ l e.
    let fresh : is_new earlier (Some l) ≡ true = subst (λ (o : Option ℕ). is_new earlier o ≡ true) e (new refl) in
    let later : AreNew (l ∷ earlier) (labels_in (ops_of rest)) = subst (λ (o : Option ℕ). AreNew (with_label earlier o) (labels_in (ops_of rest))) e others in
    one_more earlier l (labels_in (ops_of rest)) (not_false (has earlier l) fresh) later)
    (λ e. subst (λ (o : Option ℕ). AreNew (with_label earlier o) (labels_in (ops_of rest))) e others)

pub all_new : (g : Settings) (earlier : List ℕ) (raws : List (FoundOrFault Op)) → AreNew earlier (labels_in (ops_of (tested g earlier raws)))
all_new g earlier [] = no_new earlier
all_new g earlier (Ok op ∷ raws) =
    new_step earlier op (is_op g op && is_new earlier (started_label op)) (tested g (with_label earlier (started_label op)) raws)
    (λ h. (and_parts (is_op g op) (is_new earlier (started_label op)) h).1)
    (all_new g (with_label earlier (started_label op)) raws)
all_new g earlier (Err fault ∷ raws) = all_new g earlier raws

-- ---- the front of a list

labels_append : (a b : List Op) → labels_in (a ++ b) ≡ labels_in a ++ labels_in b
labels_append [] b = refl
labels_append (Start l wheel when dest msg ∷ a) b = ap (λ (ls : List ℕ). l ∷ ls) (labels_append a b)
labels_append (SendAfter l wheel when dest msg ∷ a) b = ap (λ (ls : List ℕ). l ∷ ls) (labels_append a b)
labels_append (_ ∷ a) b = labels_append a b

all_front : {X : Type 0} (P : X → Type 0) (xs ys : List X) → All P (xs ++ ys) → All P xs
all_front P xs ys h = All-same P xs (take (length xs) (xs ++ ys)) (sym (take-append_seam xs ys)) (All-take P (length xs) (xs ++ ys) h)

pairs_front : (xs ys : List ℕ) → AllPairs (λ (l : ℕ) k. l ≢ k) (xs ++ ys) → AllPairs (λ (l : ℕ) k. l ≢ k) xs
pairs_front [] ys h = λ i j d lt le. absurd (omega arith)
pairs_front (x ∷ xs) ys h =
    AllPairs-cons (λ (l : ℕ) k. l ≢ k) x xs (all_front (λ k. x ≢ k) xs ys (pairs_head (λ (l : ℕ) k. l ≢ k) x (xs ++ ys) h))
    (pairs_front xs ys (pairs_tail (λ (l : ℕ) k. l ≢ k) x (xs ++ ys) h))

pub ops_front : (a b : List Op) → AreOps (a ++ b) → AreOps a
ops_front a b h = record {
  apart = pairs_front (labels_in a) (labels_in b) (subst (AllPairs (λ (l : ℕ) k. l ≢ k)) (labels_append a b) h.apart);
  few = omega (arith, length-append a b, h.few);
}
