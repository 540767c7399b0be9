use Rattle.std.proofs.Common.{sym, subst}
use Rattle.ert_defs.specs.Lines.{Face}
use Rattle.ert_defs.proofs.Bounds.{sound_opening}
use Rattle.ert_clock.specs.Shown.{IsKept}
use Rattle.ert_clock.proofs.clock.Clock.new.Goals as goal

pub invariant_of-result : goal.invariant_of-result
invariant_of-result c =
    subst (λ (f : Face). IsKept c.args.settings.now f) (sym c.opening.ensures)
    (record { checked = c.requires.checked; sound = sound_opening c.args.settings.now c.requires.checked })
