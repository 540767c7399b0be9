-- Shards that came back one after the other.

use Rattle.std.proofs.Common.{◌≡◌, ℕ, zero, suc, List, [], ◌++◌, Some, refl, sym, subst, ◌∙◌, append-nil}
use Rattle.std.proofs.lemmas.List.{Elements.{All-append, All-take, All-drop}, append_assoc}
use Rattle.std.specs.List.{All, slice_get, remove}
use Rattle.ert_defs.specs.declared.entry.Entry.{Entry}
use Rattle.ert_shard.specs.{Hubs.{Rest, IsLastOut, TakesBack, AreOurs, ComeBack}, Shards.Owned}
use Rattle.ert_table.specs.Views.{Begins}

-- one more came back
pub come_more : (n : ℕ) (old : Rest) (shards : List Owned) (mid : Rest) (left : List Owned) (i : ℕ) (o : Owned) (new : Rest) → ComeBack n old shards mid left
    → slice_get left i ≡ Some o → IsLastOut mid o → TakesBack mid o new → ComeBack (suc n) old shards new (remove left i)
come_more zero old shards mid left i o new back at next takes = (
  i,
  o,
  new,
  subst (λ l. slice_get l i ≡ Some o) back.1 at,
  subst (λ r. IsLastOut r o) back.0 next,
  subst (λ r. TakesBack r o new) back.0 takes,
  (refl, subst (λ l. remove left i ≡ remove l i) back.1 refl),
)
come_more (suc n) old shards mid left i o new back at next takes =
    (back.0, back.1, back.2, back.3, back.4, back.5, come_more n back.2 (remove shards back.0) mid left i o new back.6 at next takes)

-- what is left of shards of a hub is of it still
pub ours_left : (old new : Rest) (o : Owned) (shards : List Owned) (i : ℕ) → TakesBack old o new → AreOurs old shards → AreOurs new (remove shards i)
ours_left old new o shards i takes ours =
    let P : Owned → Type 0 = λ x. (x.table ≡ new.table) × (x.settings ≡ new.settings) in
    let all : All P shards = λ k d low. ((ours k d low).0 ∙ sym takes.table, (ours k d low).1 ∙ sym takes.settings) in
    All-append P _ _ (All-take P i shards all) (All-drop P (suc i) shards all)

begins_same : (h : List Entry) → Begins h h
begins_same h = record { later = []; grown = sym (append-nil h) }

begins_on : (f h k : List Entry) → Begins f h → Begins h k → Begins f k
begins_on f h k one two = record {
  later = one.later ++ two.later;
  grown = two.grown ∙ subst (λ l. l ++ two.later ≡ f ++ (one.later ++ two.later)) (sym one.grown) (append_assoc f one.later two.later);
}

-- what a hub knew begins what it knows
pub come_begins : (n : ℕ) (old : Rest) (shards : List Owned) (new : Rest) (left : List Owned) → ComeBack n old shards new left → Begins old.history new.history
come_begins zero old shards new left back = subst (λ (r : Rest). Begins old.history r.history) (sym back.0) (begins_same old.history)
come_begins (suc n) old shards new left back =
    begins_on old.history back.2.history new.history back.5.begins (come_begins n back.2 (remove shards back.0) new left back.6)
