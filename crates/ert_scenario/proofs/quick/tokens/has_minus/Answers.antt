use Rattle.std.proofs.Common.{◌≡◌, ℕ, suc, ◌<◌, List, [], ◌∷◌, length, slice_index, Bool, true, false, IsTrue, not, ◌==◌, arith, refl, sym, ap, ◌∙◌, true≢false}
use Rattle.std.proofs.lemmas.Bool.{eqb-true}
use Rattle.ert_scenario.proofs.quick.tokens.has_minus.Goals as goal

not_zero : (n : ℕ) → (suc n == 0) ≡ true → ⊥
not_zero n h = let e : suc n ≡ 0 = eqb-true (suc n) 0 h in omega arith

-- no byte is at the front of no bytes
no_front : (bytes : List ℕ) → (length bytes == 0) ≡ true → (slice_index bytes 0 == 45) ≡ false
no_front [] h = refl
no_front (b ∷ bytes) h = absurd (not_zero (length bytes) h)

front : (bytes : List ℕ) → (length bytes == 0) ≡ false → 0 < length bytes
front [] h = absurd (true≢false h)
front (b ∷ bytes) h = omega arith

never : (b : Bool) (n : ℕ) → b ≡ true → IsTrue (not b) → 0 < n
never true n e h = absurd (true≢false (sym h))
never false n e h = absurd (true≢false (sym e))

pub returns-then-not-is_empty-clause-value : goal.returns-then-not-is_empty-clause-value
returns-then-not-is_empty-clause-value c = refl

pub returns-then-not-is_empty-clause-len : goal.returns-then-not-is_empty-clause-len
returns-then-not-is_empty-clause-len c = λ _. front c.args.bytes.now (sym c.is_empty.ensures ∙ c.if-not-is_empty.true)

pub returns-else-not-is_empty-clause-value : goal.returns-else-not-is_empty-clause-value
returns-else-not-is_empty-clause-value c =
    ap not c.if-not-is_empty.false ∙ sym (no_front c.args.bytes.now (sym c.is_empty.ensures ∙ c.if-not-is_empty.false))

pub returns-else-not-is_empty-clause-len : goal.returns-else-not-is_empty-clause-len
returns-else-not-is_empty-clause-len c = never c.is_empty.result _ c.if-not-is_empty.false
