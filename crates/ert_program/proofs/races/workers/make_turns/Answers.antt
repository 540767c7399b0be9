use Rattle.ert_program.proofs.Worked.{turns_done, if_ok_both}
use Rattle.ert_table.specs.Desks.{front_of}
use Rattle.ert_program.proofs.races.workers.make_turns.Goals as goal

pub returns : goal.returns
returns g c = λ f seated.
    if_ok_both c.collect_scheds.result _ _ _
    (λ r seats done. turns_done (λ s. s.part.wheel) (λ s. front_of s.pass) (λ d. d.seat) g.L.DeskName.settings f c.args.scheds.items c.in_ok-all.all.items r.items
    (λ d. d.done) c.args.turns seated c.in_ok-all.ensures.counted c.in_ok-all.ensures.worked seats done)
    c.collect_scheds.ensures.seats c.collect_scheds.ensures.done
