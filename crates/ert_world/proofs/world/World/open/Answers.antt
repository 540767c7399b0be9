use Rattle.std.proofs.Common.{rules}
use Rattle.std.specs.Arc.{arc_value}
use Rattle.ert_world.proofs.Opened.{opened, new_tidy}
use Rattle.ert_world.specs.{Parts.parts_of, Worlds.AreFit}
use Rattle.ert_world.proofs.world.World.open.Goals as goal

pub returns : goal.returns
returns c =
    opened c.args.settings.now c.in_ok-desk.desk (arc_value c.in-Ok.desk) c.in_ok-desk.pass c.open-2.result c.in_ok-wheels.wheels.items c.requires c.in-Ok.ensures.ok
    c.in_ok-desk.ensures.settings c.in_ok-desk.ensures.front c.open-2.ensures.stands

pub invariant_of-result : goal.invariant_of-result
invariant_of-result c = record {
  sound =
      (let fit : AreFit (arc_value c.in-Ok.desk) c.in_ok-desk.pass 1 (parts_of c.open-2.result c.in_ok-wheels.wheels.items c.in_ok-inboxes.inboxes.items c.in_ok-mails.mails.items c.in_ok-scheds.scheds.items) =
      search rules in
      record {
        fit = fit;
        tidy = λ one. new_tidy c.args.settings.now c.in_ok-desk.desk (arc_value c.in-Ok.desk) c.in_ok-desk.pass c.in_ok-wheels.wheels.items c.in-Ok.ensures.ok
            c.in_ok-desk.ensures.settings c.in_ok-desk.ensures.front c.in_ok-wheels.ensures;
      });
  listed = tt;
}
