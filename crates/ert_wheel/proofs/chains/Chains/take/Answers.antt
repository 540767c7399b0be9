use Rattle.std.proofs.Common.{◌≡◌, ◌+◌, ◌-◌, ◌<◌, ◌∙◌, List, length, sym, ap, subst, arith}
use Rattle.std.proofs.lemmas.List.{with_items_is}
use Rattle.ert_wheel.proofs.{Calls.{IsTakenOut, take_stored}, Stored.stored_low}
use Rattle.ert_wheel.proofs.chains.Chains.take.Goals as goal
use Rattle.ert_wheel.specs.{Chained.Unspliced, Links.{next_at, prev_at, seen_links, AreWritten}, Rings.{Rings, seen_rings, GivesUpPlace}, declared.links.Link.Link}

here : (c : goal.After-deref_mut) → c.self.inside.homes + c.args.slot < length c.self.inside.links.items
here c =
    let old = c.self.inside in
    stored_low old.slots old.homes old.links.items c.args.self.now c.args.slot c.self.view_is c.requires.written

pub unlink-requires-clause-slot : goal.unlink-requires-clause-slot
unlink-requires-clause-slot c =
    subst (λ (l : List Link). c.self.inside.homes + c.args.slot < length l) (sym c.deref_mut.ensures.value) (here c)

pub unlink-requires-clause-prev : goal.unlink-requires-clause-prev
unlink-requires-clause-prev c =
    let node = c.self.inside.homes + c.args.slot in
    subst (λ (l : List Link). prev_at l node < length l) (sym c.deref_mut.ensures.value) (c.self.invariant.prev node (here c))

pub unlink-requires-clause-next : goal.unlink-requires-clause-next
unlink-requires-clause-next c =
    let node = c.self.inside.homes + c.args.slot in
    subst (λ (l : List Link). next_at l node < length l) (sym c.deref_mut.ensures.value) (c.self.invariant.next node (here c))

out : (c : goal.After-self-1) → IsTakenOut c.args.self.now c.self.inside.slots c.self.inside.homes c.self.inside.links.cap c.unlink.new.links c.args.slot
out c =
    let old = c.self.inside in
    take_stored c.args.self.now old.slots old.homes old.links.cap old.links.items c.deref_mut.result.now c.unlink.new.links c.args.slot c.self.view_is
    c.requires.may.low c.requires.written c.self.invariant c.deref_mut.ensures.value c.unlink.auto.links c.unlink.ensures

pub invariant_of-self : goal.invariant_of-self
invariant_of-self c =
    let old = c.self.inside in
    subst (λ (links : List Link). AreWritten old.slots old.homes links old.links.cap)
    (sym (with_items_is old.links c.unlink.new.links (omega (arith, c.unlink.auto.links, c.deref_mut.ensures.len)))) (out c).written

pub returns-clause-written : goal.returns-clause-written
returns-clause-written c =
    let old = c.self.inside in
    subst (λ (links : List Link). length links - old.homes ≡ c.args.self.now.written)
    (sym (with_items_is old.links c.unlink.new.links (omega (arith, c.unlink.auto.links, c.deref_mut.ensures.len))))
    (ap (λ n. n - old.homes) (c.unlink.auto.links ∙ ap length c.deref_mut.ensures.value) ∙ ap (λ (r : Rings). r.written) c.self.view_is)

pub returns-clause-unspliced : goal.returns-clause-unspliced
returns-clause-unspliced c =
    let old = c.self.inside in
    subst (λ (links : List Link). Unspliced (next_at c.args.self.now.links) (prev_at c.args.self.now.links) (next_at (seen_links old.slots old.homes links)) (prev_at (seen_links old.slots old.homes links)) c.args.slot)
    (sym (with_items_is old.links c.unlink.new.links (omega (arith, c.unlink.auto.links, c.deref_mut.ensures.len)))) (out c).unspliced

pub returns-clause-chains : goal.returns-clause-chains
returns-clause-chains c =
    let old = c.self.inside in
    subst (λ (links : List Link). GivesUpPlace c.args.self.now (seen_rings old.slots old.homes links) c.args.slot)
    (sym (with_items_is old.links c.unlink.new.links (omega (arith, c.unlink.auto.links, c.deref_mut.ensures.len)))) (out c).gives_up
