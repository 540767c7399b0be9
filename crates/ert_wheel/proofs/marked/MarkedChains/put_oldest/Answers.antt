use Rattle.std.proofs.Common.{subst, sym}
use Rattle.ert_wheel.proofs.Following.{put_oldest_marked}
use Rattle.ert_wheel.proofs.marked.MarkedChains.put_oldest.Goals as goal
use Rattle.ert_wheel.specs.Rings.{Rings, MayPut, PutsOldestInHome}

pub invariant_of-self : goal.invariant_of-self
invariant_of-self c =
    let may = subst (λ (r : Rings). MayPut r c.args.slot c.args.home) (sym c.self.view_is) c.requires.may in
    put_oldest_marked c.self.inside.chains c.put_oldest.new.self c.args.slot c.args.home c.self.inside.marks c.set.new.self may.places c.self.invariant
    c.put_oldest.ensures.slots c.put_oldest.ensures.homes may.are may.low may.in_range c.put_oldest.ensures.spliced c.set.ensures.here c.set.ensures.others

pub returns-clause-in_home : goal.returns-clause-in_home
returns-clause-in_home c =
    subst (λ (r : Rings). PutsOldestInHome r c.put_oldest.new.self c.args.slot c.args.home) c.self.view_is c.put_oldest.ensures.in_home
