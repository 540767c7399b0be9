use Rattle.std.proofs.Common.{◌+◌, ◌≤◌, length, sym, ap, subst, arith}
use Rattle.ert_wheel.proofs.Stored.{IsGrown, rings_grown, written_grown}
use Rattle.ert_wheel.proofs.chains.Chains.write_up_to.Goals as goal
use Rattle.ert_wheel.specs.{Links.AreWritten, Rings.Rings}

-- no more than there are slots, and no fewer than before
few : (c : goal.After-add_alone) → c.args.count ≤ c.self.inside.slots
few c = subst (λ (r : Rings). c.args.count ≤ r.slots) (sym c.self.view_is) c.requires.most

more : (c : goal.After-add_alone) → length c.self.inside.links.items ≤ c.self.inside.homes + c.args.count
more c = omega (arith, ap (λ (r : Rings). r.written) c.self.view_is, c.requires.more, c.self.invariant.heads)

grown : (c : goal.After-add_alone) → IsGrown c.self.inside.links.items c.add_alone.new.links.items (c.self.inside.homes + c.args.count)
grown c = record {
  long = omega (arith, c.add_alone.ensures.count);
  most = omega (arith, c.add_alone.ensures.count, more c);
  more = omega (arith, c.add_alone.ensures.count, more c);
  same = c.add_alone.ensures.same;
}

pub add_alone-requires-clause-room : goal.add_alone-requires-clause-room
add_alone-requires-clause-room c =
    omega (arith, c.self.invariant.room, subst (λ (r : Rings). c.args.count ≤ r.slots) (sym c.self.view_is) c.requires.most)

pub add_alone-requires-clause-more : goal.add_alone-requires-clause-more
add_alone-requires-clause-more c = omega (arith, ap (λ (r : Rings). r.written) c.self.view_is, c.requires.more, c.self.invariant.heads)

pub invariant_of-self : goal.invariant_of-self
invariant_of-self c =
    let old = c.self.inside in
    subst (λ cap. AreWritten old.slots old.homes c.add_alone.new.links.items cap) (sym c.add_alone.ensures.capacity)
    (written_grown old.slots old.homes old.links.cap (old.homes + c.args.count) old.links.items c.add_alone.new.links.items c.self.invariant
    (omega (arith, few c)) (grown c))

pub returns : goal.returns
returns c =
    let old = c.self.inside in
    rings_grown c.args.self.now old.slots old.homes c.args.count old.links.items c.add_alone.new.links.items c.self.view_is c.add_alone.ensures.count (grown c)
