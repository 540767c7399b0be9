use Rattle.std.proofs.Common.{◌≡◌, ◌+◌, ap, subst, sym, ◌∙◌}
use Rattle.std.specs.Arc.{arc_value}
use Rattle.ert_shard.proofs.Parted.{whole}
use Rattle.ert_shard.specs.Hubs.{Rest}
use Rattle.ert_world.specs.{Parts.parts_of, Worlds.Seen}
use Rattle.ert_shard.proofs.hub.Hub.into_world.Goals as goal

pub from_parts-requires-clause-fit : goal.from_parts-requires-clause-fit
from_parts-requires-clause-fit c =
    let b = c.self.inside in
    let is = sym c.self.view_is in
    whole (arc_value b.desk) b.pass b.left b.first b.next b.homes.items (parts_of b.keeper b.wheels.items b.inboxes.items b.mails.items b.scheds.items)
    (subst (λ (r : Rest). r.left ≡ r.settings.schedulers) is c.requires.schedulers) (subst (λ (r : Rest). r.first ≡ r.settings.processes) is c.requires.processes)
    (subst (λ (r : Rest). r.next ≡ r.settings.schedulers + 1) is c.requires.seats) c.self.invariant.0

pub returns : goal.returns
returns c =
    let put = c.from_parts.ensures.rest in
    let is = c.self.view_is in
    record {
      table = ap (λ (w : Seen). w.table) put ∙ ap (λ (r : Rest). r.table) is;
      settings = ap (λ (w : Seen). w.settings) put ∙ ap (λ (r : Rest). r.settings) is;
      history = ap (λ (w : Seen). w.history) put ∙ ap (λ (r : Rest). r.history) is;
      clock = ap (λ (w : Seen). w.clock) put ∙ ap (λ (r : Rest). r.clock) is;
      next = ap (λ (w : Seen). w.next) put;
    }
