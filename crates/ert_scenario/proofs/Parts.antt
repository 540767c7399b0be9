-- The test of the parts of a unit, and the fact that it tests.

use Rattle.std.proofs.Common.{◌≡◌, ◌↔◌, ℕ, true, false, Option, Some, None, IsSome, IfSome, Ok, refl, ap, ◌∙◌}
use Rattle.std.proofs.lemmas.Bool.{false≢true, Decides.{Decides-and, Decides-like, Decides-ltb, same_from_decides}}
use Rattle.std.specs.{Bool.Decides, Option.ok_or}
use Rattle.ert_ops.specs.Units.{IsParts}
use Rattle.ert_scenario.specs.{Kinds.if_in_range, Units.{is_parts, unit_of}, declared.fault.Fault.TheVariants.Range}
use Rattle.ert_scenario.proofs.Checked.{Decides-nat_le}

Decides-parts : (n : ℕ) → Decides (is_parts n) (IsParts n)
unfolding is_parts
Decides-parts n =
    Decides-like _ (λ p. record { low = p.0; high = p.1 }) (λ h. (h.low, h.high)) (Decides-and _ _ (Decides-nat_le _ _) (Decides-ltb _ _))

-- a unit that is there exactly where its parts are in range is what the test gives
pub unit_where_parts : (unit : Option ℕ) (n : ℕ) → (IsSome unit ↔ IsParts n) → IfSome unit (λ u. u ≡ n) → ok_or unit Range ≡ unit_of n
unfolding if_in_range unit_of
unit_where_parts None n there same =
    ap (λ fits. if_in_range fits n)
    (same_from_decides false (is_parts n) (λ h. absurd (false≢true h), λ h. absurd (false≢true (there.1 h))) (Decides-parts n))
unit_where_parts (Some u) n there same =
    ap (λ u. Ok u) same
    ∙ ap (λ fits. if_in_range fits n) (same_from_decides true (is_parts n) (λ _. there.0 refl, λ _. refl) (Decides-parts n))
