use Rattle.std.proofs.Common.{subst, sym}
use Rattle.ert_wheel.proofs.Following.{put_marked}
use Rattle.ert_wheel.proofs.marked.MarkedChains.put.Goals as goal
use Rattle.ert_wheel.specs.Rings.{Rings, MayPut, Puts, PutsInHome}

pub invariant_of-self : goal.invariant_of-self
invariant_of-self c =
    let may = subst (λ (r : Rings). MayPut r c.args.slot c.args.home) (sym c.self.view_is) c.requires.may in
    put_marked c.self.inside.chains c.put.new.self c.args.slot c.args.home c.self.inside.marks c.set.new.self c.self.invariant
    c.put.ensures.slots c.put.ensures.homes may.low c.put.ensures.spliced c.set.ensures.here c.set.ensures.others

pub returns-clause-chains : goal.returns-clause-chains
returns-clause-chains c =
    subst (λ (r : Rings). Puts r c.put.new.self c.args.slot c.args.home) c.self.view_is c.put.ensures.chains

pub returns-clause-in_home : goal.returns-clause-in_home
returns-clause-in_home c =
    subst (λ (r : Rings). PutsInHome r c.put.new.self c.args.slot c.args.home) c.self.view_is c.put.ensures.in_home
