use Rattle.std.proofs.Common.{◌≡◌, rules, FitsSigned, w64, to_z-of_z}
use Rattle.std.specs.Int.{cast_unsigned}
use Rattle.ert_timers.proofs.Rounding.{within, beyond}
use Rattle.ert_timers.proofs.looking.deadline_behind.Goals as goal

pub returns-then-later-up-clause-told : goal.returns-then-later-up-clause-told
returns-then-later-up-clause-told c g time is =
    let fits : FitsSigned w64 c.args.wait = search rules in
    let told : c.cast_unsigned-later.result ≡ cast_unsigned w64 c.args.wait = simp to_z-of_z at c.cast_unsigned-later.ensures in
    beyond g time c.args.up c.cast_unsigned-later.result c.args.wait told c.requires c.if-later-up.true is

pub returns-clause-told : goal.returns-clause-told
returns-clause-told c g time is =
    let fits : FitsSigned w64 c.args.wait = search rules in
    let told : c.cast_unsigned-later.result ≡ cast_unsigned w64 c.args.wait = simp to_z-of_z at c.cast_unsigned-later.ensures in
    within g time c.args.up c.cast_unsigned-later.result c.args.wait told fits c.requires c.if-later-up.false is
