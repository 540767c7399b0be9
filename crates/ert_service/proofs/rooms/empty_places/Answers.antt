use Rattle.std.proofs.Common.{◌+◌, rules, sym, subst}
use Rattle.ert_service.proofs.Closed.{empty_more}
use Rattle.ert_service.specs.Gathering.{AreEmpty}
use Rattle.ert_service.proofs.rooms.empty_places.Goals as goal

pub loop-preserved : goal.loop-preserved
loop-preserved g c = record {
  len = search rules;
  room = search rules;
  empty = subst (λ l. AreEmpty (c.loop.counter + 1) l) (sym c.push_reserved.ensures.items) (empty_more c.loop.counter c.loop.places.items c.loop.invariant.empty);
}
