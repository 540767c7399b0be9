use Rattle.std.proofs.Common.{◌∙◌, ◌<◌, IfSome, sym, ap, subst}
use Rattle.ert_timers.proofs.Openings.{key_nowhere}
use Rattle.ert_wheel.specs.{Rows.key_in, declared.row.Key.Key}
use Rattle.ert_tests.proofs.examples.due_rows.Goals as goal

-- a new wheel has no row
pub insert-requires-clause-newest : goal.insert-requires-clause-newest
insert-requires-clause-newest c = λ slot.
    subst (λ o. IfSome o (λ (key : Key). key.order < 0))
    (sym (ap (λ ks. key_in ks slot) (c.write_up_to.ensures.keys ∙ c.in_ok-wheel.ensures.keys) ∙ key_nowhere 64 slot)) tt
