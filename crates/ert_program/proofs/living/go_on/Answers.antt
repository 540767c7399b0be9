use Rattle.std.proofs.Common.{rules, [], ◌∙◌, FitsSigned, w64, to_z-of_z}
use Rattle.ert_script.proofs.Texts.{ok_map}
use Rattle.ert_program.proofs.LivedThrough.{lived_more}
use Rattle.ert_program.proofs.living.go_on.Goals as goal

pub tell-requires : goal.tell-requires
tell-requires c = (c.tick.ensures.with []).next ∙ c.requires.lone

pub returns : goal.returns
returns c = λ first others lived.
    let mono : FitsSigned w64 c.args.reading.mono = search rules in
    let sys : FitsSigned w64 c.args.reading.sys = search rules in
    let ticked = simp to_z-of_z at c.tick.ensures in
    ok_map c.tell.result
    (λ tells. lived_more first others c.args.reading c.args.world.now c.tick.new.world c.tell.new.world c.tick.result _ _ lived ticked tells)
    c.tell.ensures
