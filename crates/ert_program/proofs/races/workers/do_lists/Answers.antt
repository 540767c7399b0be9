use Rattle.ert_ops.specs.Races.{lists_of, race_of}
use Rattle.ert_program.proofs.Worked.{lists_done, if_ok_both}
use Rattle.ert_table.specs.Desks.{front_of}
use Rattle.ert_program.proofs.races.workers.do_lists.Goals as goal

pub returns : goal.returns
returns g c = λ f seated.
    if_ok_both c.collect_lists.result _ _ _
    (λ r seats lists. lists_done (λ s. s.number) (λ s. front_of s.pass) (λ d. d.seat) g.L.DeskName.settings f c.args.callers.items c.in_ok-all.all.items r.0.items
    (λ d. d.done) c.args.known.now (lists_of (race_of c.args.race.now)) r.1.items seated c.in_ok-all.ensures.counted c.in_ok-all.ensures.worked seats lists)
    c.collect_lists.ensures.seats c.collect_lists.ensures.lists
