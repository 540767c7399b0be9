use Rattle.std.proofs.Common.{◌∙◌, ap, ap₂}
use Rattle.std.proofs.lemmas.Result.{IfOk-weaker}
use Rattle.clap.specs.Words.{App, with_subcommand}
use Rattle.ert_program.proofs.parser.parser.Goals as goal

pub returns : goal.returns
returns c =
    let top = λ (a : App). a.top in
    let with_run = c.in_ok-subcommand.ensures.shape c.new.ensures.local ∙ ap₂ with_subcommand c.bare_parser.ensures.app (ap top c.new.ensures.app) in
    let with_race = c.in_ok-subcommand-2.ensures.shape c.new-2.ensures.local ∙ ap₂ with_subcommand with_run (ap top c.new-2.ensures.app) in
    let with_live = c.in_ok-subcommand-3.ensures.shape c.in_ok-live_parser.ensures.local ∙ ap₂ with_subcommand with_race (ap top c.in_ok-live_parser.ensures.app) in
    IfOk-weaker c.subcommand-4.result _ _
    (λ made adds. adds.shape c.in_ok-stress_parser.ensures.local ∙ ap₂ with_subcommand with_live (ap top c.in_ok-stress_parser.ensures.app))
    c.subcommand-4.ensures
