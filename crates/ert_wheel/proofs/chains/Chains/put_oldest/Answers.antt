use Rattle.std.proofs.Common.{◌≡◌, ◌≢◌, ℕ, ◌+◌, ◌-◌, ◌<◌, ◌∙◌, List, length, sym, ap, subst, arith}
use Rattle.std.proofs.lemmas.List.{with_items_is}
use Rattle.ert_wheel.proofs.{Calls.{IsPutOldest, put_oldest_stored}, Stored.{MayLinkLast, may_link_last}}
use Rattle.ert_wheel.proofs.chains.Chains.put_oldest.Goals as goal
use Rattle.ert_wheel.specs.{Chained.Spliced, Links.{next_at, prev_at, seen_links, AreWritten}, Rings.{Rings, seen_rings, PutsOldestInHome}, declared.links.Link.Link}

last : (c : goal.After-deref_mut) → c.prev_of-last.result ≡ prev_at c.self.inside.links.items c.args.home
last c = c.prev_of-last.ensures ∙ ap (λ (l : List Link). prev_at l c.args.home) c.deref.ensures.value

may : (c : goal.After-deref_mut) → MayLinkLast c.self.inside.homes c.deref_mut.result.now c.args.slot c.args.home
may c =
    let old = c.self.inside in
    subst (λ (l : List Link). MayLinkLast old.homes l c.args.slot c.args.home) (sym c.deref_mut.ensures.value)
    (may_link_last c.args.self.now old.slots old.homes old.links.cap old.links.items c.args.slot c.args.home c.self.view_is c.requires.may c.requires.written c.self.invariant)

-- the node before the head, as it is read
here : (c : goal.After-deref_mut) → prev_at c.deref_mut.result.now c.args.home ≡ c.prev_of-last.result
here c = ap (λ (l : List Link). prev_at l c.args.home) c.deref_mut.ensures.value ∙ sym (last c)

pub link_in-requires : goal.link_in-requires
link_in-requires c = record {
  head = subst (λ (n : ℕ). n < length c.deref_mut.result.now) (here c) (may c).last;
  slot = (may c).node;
  next = subst (λ (n : ℕ). next_at c.deref_mut.result.now n < length c.deref_mut.result.now) (here c) (may c).next;
  apart = subst (λ (n : ℕ). c.self.inside.homes + c.args.slot ≢ n) (here c) (may c).apart;
  new = subst (λ (n : ℕ). c.self.inside.homes + c.args.slot ≢ next_at c.deref_mut.result.now n) (here c) (may c).new;
}

put : (c : goal.After-self-1) → IsPutOldest c.args.self.now c.self.inside.slots c.self.inside.homes c.self.inside.links.cap c.link_in.new.links c.args.slot c.args.home
put c =
    let old = c.self.inside in
    put_oldest_stored c.args.self.now old.slots old.homes old.links.cap old.links.items c.deref_mut.result.now c.link_in.new.links
    c.args.slot c.args.home c.prev_of-last.result c.self.view_is c.requires.may c.requires.written c.self.invariant c.deref_mut.ensures.value c.link_in.auto.links
    (c.prev_of-last.ensures ∙ ap (λ (l : List Link). prev_at l c.args.home) c.deref.ensures.value) c.link_in.ensures

pub invariant_of-self : goal.invariant_of-self
invariant_of-self c =
    let old = c.self.inside in
    subst (λ (links : List Link). AreWritten old.slots old.homes links old.links.cap)
    (sym (with_items_is old.links c.link_in.new.links (omega (arith, c.link_in.auto.links, c.deref_mut.ensures.len)))) (put c).written

pub returns-clause-written : goal.returns-clause-written
returns-clause-written c =
    let old = c.self.inside in
    subst (λ (links : List Link). length links - old.homes ≡ c.args.self.now.written)
    (sym (with_items_is old.links c.link_in.new.links (omega (arith, c.link_in.auto.links, c.deref_mut.ensures.len))))
    (ap (λ n. n - old.homes) (c.link_in.auto.links ∙ ap length c.deref_mut.ensures.value) ∙ ap (λ (r : Rings). r.written) c.self.view_is)

pub returns-clause-spliced : goal.returns-clause-spliced
returns-clause-spliced c =
    let old = c.self.inside in
    subst (λ (links : List Link). Spliced (next_at c.args.self.now.links) (prev_at c.args.self.now.links) (next_at (seen_links old.slots old.homes links)) (prev_at (seen_links old.slots old.homes links)) (prev_at c.args.self.now.links (c.args.self.now.slots + c.args.home)) c.args.slot)
    (sym (with_items_is old.links c.link_in.new.links (omega (arith, c.link_in.auto.links, c.deref_mut.ensures.len)))) (put c).spliced

pub returns-clause-in_home : goal.returns-clause-in_home
returns-clause-in_home c =
    let old = c.self.inside in
    subst (λ (links : List Link). PutsOldestInHome c.args.self.now (seen_rings old.slots old.homes links) c.args.slot c.args.home)
    (sym (with_items_is old.links c.link_in.new.links (omega (arith, c.link_in.auto.links, c.deref_mut.ensures.len)))) (put c).in_home
