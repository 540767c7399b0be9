use Rattle.std.proofs.Common.{◌+◌, ◌<◌, ◌∙◌, List, length, sym, ap, subst}
use Rattle.ert_wheel.proofs.Stored.{only_seen, others_after, others_apart, stored_low}
use Rattle.ert_wheel.proofs.chains.Chains.only_of.Goals as goal
use Rattle.ert_wheel.specs.{Links.{next_at, prev_at}, declared.links.Link.Link}

pub next_of-next-requires : goal.next_of-next-requires
next_of-next-requires c =
    let r = c.self.inside in
    subst (λ (l : List Link). r.homes + c.args.slot < length l) (sym c.deref.ensures.value)
    (stored_low r.slots r.homes r.links.items c.args.self.now c.args.slot c.self.view_is c.requires)

pub prev_of-requires : goal.prev_of-requires
prev_of-requires c =
    let r = c.self.inside in
    subst (λ (l : List Link). r.homes + c.args.slot < length l) (sym c.deref-2.ensures.value)
    (stored_low r.slots r.homes r.links.items c.args.self.now c.args.slot c.self.view_is c.requires)

pub returns-then-next-prev_of : goal.returns-then-next-prev_of
returns-then-next-prev_of c =
    let r = c.self.inside in
    let node = r.homes + c.args.slot in
    others_apart c.args.self.now r.slots r.homes r.links.cap r.links.items c.args.slot c.next_of-next.result c.prev_of.result c.self.view_is c.requires c.self.invariant
    (c.next_of-next.ensures ∙ ap (λ (l : List Link). next_at l node) c.deref.ensures.value)
    (c.prev_of.ensures ∙ ap (λ (l : List Link). prev_at l node) c.deref-2.ensures.value) c.if-next-prev_of.true

pub returns-then-next-self : goal.returns-then-next-self
returns-then-next-self c =
    let r = c.self.inside in
    let node = r.homes + c.args.slot in
    others_after c.args.self.now r.slots r.homes r.links.cap r.links.items c.args.slot c.next_of-next.result c.self.view_is c.requires c.self.invariant
    (c.next_of-next.ensures ∙ ap (λ (l : List Link). next_at l node) c.deref.ensures.value) c.if-next-self.true

pub returns : goal.returns
returns c =
    let r = c.self.inside in
    let node = r.homes + c.args.slot in
    only_seen c.args.self.now r.slots r.homes r.links.cap r.links.items c.args.slot c.next_of-next.result c.prev_of.result c.self.view_is c.requires c.self.invariant
    (c.next_of-next.ensures ∙ ap (λ (l : List Link). next_at l node) c.deref.ensures.value)
    (c.prev_of.ensures ∙ ap (λ (l : List Link). prev_at l node) c.deref-2.ensures.value) c.if-next-prev_of.false c.if-next-self.false
