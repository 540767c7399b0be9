use Rattle.std.proofs.Common.{◌≡◌, ◌+◌, ◌<◌, ◌∙◌, ◌↔◌, IsTrue, List, length, nat_eq, sym, ap, subst, eqb-true, eq-eqb}
use Rattle.ert_wheel.proofs.Stored.{alone_seen, stored_low}
use Rattle.ert_wheel.proofs.chains.Chains.is_alone.Goals as goal
use Rattle.ert_wheel.specs.{Links.next_at, Rings.Rings, declared.links.Link.Link}

pub next_of-requires : goal.next_of-requires
next_of-requires c =
    let r = c.self.inside in
    subst (λ (l : List Link). r.homes + c.args.slot < length l) (sym c.deref.ensures.value)
    (stored_low r.slots r.homes r.links.items c.args.self.now c.args.slot c.self.view_is c.requires)

pub returns : goal.returns
returns c =
    let r = c.self.inside in
    let node = r.homes + c.args.slot in
    let here = stored_low r.slots r.homes r.links.items c.args.self.now c.args.slot c.self.view_is c.requires in
    let read : c.next_of.result ≡ next_at r.links.items node = c.next_of.ensures ∙ ap (λ (l : List Link). next_at l node) c.deref.ensures.value in
    let alone = alone_seen r.slots r.homes r.links.cap r.links.items c.args.slot c.self.invariant here in
    subst (λ (now : Rings). IsTrue (nat_eq c.next_of.result node) ↔ (next_at now.links c.args.slot ≡ c.args.slot)) c.self.view_is
    (λ is. alone.0 (sym read ∙ eqb-true c.next_of.result node is), λ e. eq-eqb c.next_of.result node (read ∙ alone.1 e))
