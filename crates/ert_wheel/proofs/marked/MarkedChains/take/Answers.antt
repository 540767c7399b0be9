use Rattle.std.proofs.Common.{subst, sym, arith}
use Rattle.ert_wheel.proofs.{Calls.after_in_range, Following.{is_only, has_others, take_marked, take_cleared}}
use Rattle.ert_wheel.proofs.marked.MarkedChains.take.Goals as goal
use Rattle.ert_wheel.specs.Rings.{Rings, MayTake, GivesUpPlace}

pub clear-requires : goal.clear-requires
clear-requires c =
    let may = subst (λ (r : Rings). MayTake r c.args.slot) (sym c.self.view_is) c.requires.may in
    let only = is_only c.self.inside.chains c.args.slot c.only_of-only.result c.in-Some.home c.in-Some.is c.only_of-only.ensures in
    omega (arith, only.next, after_in_range c.self.inside.chains may.places c.args.slot may.are may.low, c.self.invariant.homes)

pub invariant_of-self : goal.invariant_of-self
invariant_of-self c =
    let may = subst (λ (r : Rings). MayTake r c.args.slot) (sym c.self.view_is) c.requires.may in
    take_cleared c.self.inside.chains c.take.new.self c.args.slot c.in-Some.home c.self.inside.marks c.clear.new.self c.self.invariant
    c.take.ensures.slots c.take.ensures.homes may.low c.take.ensures.unspliced
    (is_only c.self.inside.chains c.args.slot c.only_of-only.result c.in-Some.home c.in-Some.is c.only_of-only.ensures)
    c.clear.ensures.here c.clear.ensures.others

pub invariant_of-self-in_default : goal.invariant_of-self-in_default
invariant_of-self-in_default c =
    let may = subst (λ (r : Rings). MayTake r c.args.slot) (sym c.self.view_is) c.requires.may in
    take_marked c.self.inside.chains c.take.new.self c.args.slot c.self.inside.marks may.places c.self.invariant
    c.take.ensures.slots c.take.ensures.homes may.are may.low c.take.ensures.unspliced
    (has_others c.self.inside.chains c.args.slot c.only_of-only.result c.in_default.is c.only_of-only.ensures)

pub returns-in-Some-clause-chains : goal.returns-in-Some-clause-chains
returns-in-Some-clause-chains c =
    subst (λ (r : Rings). GivesUpPlace r c.take.new.self c.args.slot) c.self.view_is c.take.ensures.chains

pub returns-in_default-clause-chains : goal.returns-in_default-clause-chains
returns-in_default-clause-chains c =
    subst (λ (r : Rings). GivesUpPlace r c.take.new.self c.args.slot) c.self.view_is c.take.ensures.chains
