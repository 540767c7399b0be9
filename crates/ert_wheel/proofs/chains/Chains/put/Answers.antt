use Rattle.std.proofs.Common.{◌≡◌, ◌+◌, ◌-◌, ◌∙◌, List, length, sym, ap, subst, arith}
use Rattle.std.proofs.lemmas.List.{with_items_is}
use Rattle.ert_wheel.proofs.{Calls.{IsPutIn, put_stored, puts_newest}, Stored.{MayLinkIn, may_link_in}}
use Rattle.ert_wheel.proofs.chains.Chains.put.Goals as goal
use Rattle.ert_wheel.specs.{Chained.Spliced, Links.{next_at, prev_at, seen_links, AreWritten}, Rings.{Rings, seen_rings, PutsInHome}, declared.links.Link.Link}

low : (c : goal.After-deref_mut) → MayLinkIn c.self.inside.homes c.deref_mut.result.now c.args.slot c.args.home
low c =
    let old = c.self.inside in
    subst (λ (l : List Link). MayLinkIn old.homes l c.args.slot c.args.home) (sym c.deref_mut.ensures.value)
    (may_link_in c.args.self.now old.slots old.homes old.links.cap old.links.items c.args.slot c.args.home c.self.view_is c.requires.may c.requires.written c.self.invariant)

pub link_in-requires : goal.link_in-requires
link_in-requires c = record {
  head = (low c).head;
  slot = (low c).node;
  next = (low c).next;
  apart = (low c).apart;
  new = (low c).new;
}

put : (c : goal.After-self-1) → IsPutIn c.args.self.now c.self.inside.slots c.self.inside.homes c.self.inside.links.cap c.link_in.new.links c.args.slot c.args.home
put c =
    let old = c.self.inside in
    put_stored c.args.self.now old.slots old.homes old.links.cap old.links.items c.deref_mut.result.now c.link_in.new.links
    c.args.slot c.args.home c.self.view_is c.requires.may c.requires.written c.self.invariant c.deref_mut.ensures.value c.link_in.auto.links c.link_in.ensures

pub invariant_of-self : goal.invariant_of-self
invariant_of-self c =
    let old = c.self.inside in
    subst (λ (links : List Link). AreWritten old.slots old.homes links old.links.cap)
    (sym (with_items_is old.links c.link_in.new.links (omega (arith, c.link_in.auto.links, c.deref_mut.ensures.len)))) (put c).written

pub returns-clause-written : goal.returns-clause-written
returns-clause-written c =
    let old = c.self.inside in
    subst (λ (links : List Link). length links - old.homes ≡ c.args.self.now.written)
    (sym (with_items_is old.links c.link_in.new.links (omega (arith, c.link_in.auto.links, c.deref_mut.ensures.len))))
    (ap (λ n. n - old.homes) (c.link_in.auto.links ∙ ap length c.deref_mut.ensures.value) ∙ ap (λ (r : Rings). r.written) c.self.view_is)

pub returns-clause-spliced : goal.returns-clause-spliced
returns-clause-spliced c =
    let old = c.self.inside in
    subst (λ (links : List Link). Spliced (next_at c.args.self.now.links) (prev_at c.args.self.now.links) (next_at (seen_links old.slots old.homes links)) (prev_at (seen_links old.slots old.homes links)) (c.args.self.now.slots + c.args.home) c.args.slot)
    (sym (with_items_is old.links c.link_in.new.links (omega (arith, c.link_in.auto.links, c.deref_mut.ensures.len)))) (put c).spliced

pub returns-clause-in_home : goal.returns-clause-in_home
returns-clause-in_home c =
    let old = c.self.inside in
    subst (λ (links : List Link). PutsInHome c.args.self.now (seen_rings old.slots old.homes links) c.args.slot c.args.home)
    (sym (with_items_is old.links c.link_in.new.links (omega (arith, c.link_in.auto.links, c.deref_mut.ensures.len)))) (put c).in_home

pub returns-clause-chains : goal.returns-clause-chains
returns-clause-chains c = puts_newest c.args.self.now _ c.args.slot c.args.home (returns-clause-in_home c)
