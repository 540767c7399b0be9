use Rattle.std.proofs.Common.{List, sym, subst, ◌∙◌}
use Rattle.ert_effects.specs.Ways.{Grows}
use Rattle.ert_defs.specs.{Legal.Legal, declared.entry.Entry.Entry, declared.settings.Settings.Settings}
use Rattle.ert_ops.specs.Races.{race_of}
use Rattle.ert_program.specs.{Outcomes.ActAtOnce, Lists.dids_of}
use Rattle.ert_program.proofs.{AtOnce.{at_once, count_callers}, Worked.if_ok_at}
use Rattle.ert_table.specs.{Desks.front_of, Views.Begins}
use Rattle.ert_program.proofs.races.race.run_at_once.Goals as goal

pub close-world-requires-clause-scheds : goal.close-world-requires-clause-scheds
close-world-requires-clause-scheds g c =
    (if_ok_at c.work_at_once-scheds.result.0 c.in_ok-scheds.scheds _
    (c.work_at_once-scheds.ensures.turned (front_of c.args.parts.pass) c.in_ok-service.ensures.scheds) c.in_ok-scheds.was).numbered

pub close-world-requires-clause-callers : goal.close-world-requires-clause-callers
close-world-requires-clause-callers g c =
    (if_ok_at c.work_at_once-scheds.result.1 (c.in_ok-callers.callers, c.in_ok-callers.lists) _
    (c.work_at_once-scheds.ensures.done (front_of c.args.parts.pass) c.in_ok-service.ensures.callers) c.in_ok-callers.was).numbered

pub returns : goal.returns
returns g c =
    let s : Settings = g.L.DeskName.settings in
    let f : List Entry = front_of c.args.parts.pass in
    let h : List Entry = c.close-world.result.history in
    let legal = subst (λ (x : Settings). Legal x h) c.close-world.ensures.settings c.history_stands.ensures.clock.legal in
    let longer = subst (λ (l : List Entry). Begins l h) c.in_ok-service.ensures.front c.close-world.ensures.rest in
    let turned = if_ok_at c.work_at_once-scheds.result.0 c.in_ok-scheds.scheds _
    (c.work_at_once-scheds.ensures.turned f c.in_ok-service.ensures.scheds) c.in_ok-scheds.was in
    let done = if_ok_at c.work_at_once-scheds.result.1 (c.in_ok-callers.callers, c.in_ok-callers.lists) _
    (c.work_at_once-scheds.ensures.done f c.in_ok-service.ensures.callers) c.in_ok-callers.was in
    let grown = at_once (λ s. s.part.wheel) (λ s. front_of s.pass) (λ s. s.number) (λ s. front_of s.pass) s c.args.known.now
    (race_of c.args.race.now) f h c.in_ok-scheds.scheds.items c.in_ok-callers.callers.items c.in_ok-callers.lists.items
    longer legal (count_callers s c.args.race.now c.requires.callers) turned c.close-world.ensures.scheds done c.close-world.ensures.callers in
    record {
      grows = subst (λ (x : Settings). Grows (ActAtOnce x c.args.known.now (race_of c.args.race.now) (dids_of c.in_ok-callers.lists.items)) f h)
          (sym c.requires.desk.settings_is) grown;
      settings = c.close-world.ensures.settings ∙ sym c.requires.desk.settings_is;
      next = c.close-world.ensures.next;
    }
