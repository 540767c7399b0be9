use Rattle.ert_program.proofs.Judged.{unnamed}
use Rattle.ert_program.proofs.command_line.command_in.Goals as goal

pub returns-in_default : goal.returns-in_default
returns-in_default c =
    unnamed _ _ _ c.in_ok-name.name.now c.in_ok-name.ensures.name c.in_default.not-run c.in_default.not-race c.in_default.not-live c.in_default.not-stress
