use Rattle.std.proofs.Common.{◌+◌, ◌-◌, List, [], None, length, ap, sym, subst, ◌∙◌, arith}
use Rattle.ert_wheel.proofs.{Calls.{empty_chains, links_alone}, Parts.chains_written, Stored.{IsGrown, seen_new, written_new}}
use Rattle.ert_wheel.proofs.chains.Chains.new.Goals as goal
use Rattle.ert_wheel.specs.{Links.next_at, Rings.{rings, AreChains}, declared.links.Link.Link}

-- the heads are written
grown : (c : goal.After-add_alone) → IsGrown [] c.add_alone.new.links.items c.args.homes
grown c =
    subst (λ (old : List Link). IsGrown old c.add_alone.new.links.items c.args.homes) c.in_ok-links.ensures.items
    (record {
      long = omega (arith, c.add_alone.ensures.count);
      most = omega (arith, c.add_alone.ensures.count);
      more = omega (arith, c.add_alone.ensures.count, ap length c.in_ok-links.ensures.items);
      same = c.add_alone.ensures.same;
    })

pub add_alone-requires-clause-room : goal.add_alone-requires-clause-room
add_alone-requires-clause-room c = omega (arith, c.in_ok-links.ensures.capacity)

pub add_alone-requires-clause-more : goal.add_alone-requires-clause-more
add_alone-requires-clause-more c = omega (arith, ap length c.in_ok-links.ensures.items)

pub invariant_of-result : goal.invariant_of-result
invariant_of-result c =
    written_new c.args.slots c.args.homes c.add_alone.new.links.cap c.add_alone.new.links.items (omega (arith, c.requires.slots)) (omega (arith, c.requires.homes))
    (omega (arith, c.in_ok-links.ensures.capacity, c.add_alone.ensures.capacity)) (grown c)

pub returns-clause-written : goal.returns-clause-written
returns-clause-written c = omega (arith, c.add_alone.ensures.count)

pub returns-clause-empty : goal.returns-clause-empty
returns-clause-empty c =
    subst (λ (links : List Link). AreChains (rings c.args.slots c.args.homes (length c.add_alone.new.links.items - c.args.homes) links) (λ _. None))
    (sym (seen_new c.args.slots c.args.homes c.add_alone.new.links.items (grown c)))
    (chains_written _ (length c.add_alone.new.links.items - c.args.homes) (λ _. None) (empty_chains c.args.slots c.args.homes))

pub returns-clause-heads : goal.returns-clause-heads
returns-clause-heads c = λ home low.
    ap (λ (links : List Link). next_at links (c.args.slots + home)) (seen_new c.args.slots c.args.homes c.add_alone.new.links.items (grown c))
    ∙ ap (λ (l : Link). l.next) (links_alone (c.args.slots + c.args.homes) (c.args.slots + home) (omega arith))
