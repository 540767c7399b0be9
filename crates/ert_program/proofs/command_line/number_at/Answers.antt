use Rattle.std.proofs.Common.{ap, ◌∙◌}
use Rattle.std.specs.Prelude.{option_and_then}
use Rattle.std.specs.Str.Parse.{ParsesUnsigned, ExplainsUnsignedError, HasUnsignedDigitsIfOk}
use Rattle.clap.specs.Words.{found_of}
use Rattle.clap.proofs.WalkLemmas.{one_text-rows}
use Rattle.ert_program.specs.Matches.{parsed}
use Rattle.ert_program.proofs.Numbers.{number_read}
use Rattle.ert_program.proofs.command_line.number_at.Goals as goal

pub returns : goal.returns
returns c =
    number_read _ (λ bs r. ParsesUnsigned 64 10 bs r × ExplainsUnsignedError 10 bs r × HasUnsignedDigitsIfOk bs r) _ c.get_one.result
    (λ t x g. g.0) c.get_one.ensures.none c.get_one.ensures.value
    ∙ ap (option_and_then parsed) (one_text-rows (found_of c.args.matches.now) c.args.id.now)
