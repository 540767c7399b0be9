use Rattle.std.proofs.Common.{◌≡◌, ◌+◌, ◌-◌, ◌<◌, ◌∙◌, List, length, refl, sym, ap, subst, arith}
use Rattle.ert_wheel.proofs.{Calls.finds_newer, Stored.{before_seen, found_seen, found_written, prev_few, stored_low}}
use Rattle.ert_wheel.proofs.chains.Chains.newer.Goals as goal
use Rattle.ert_wheel.specs.{Links.{prev_at, seen_links, stored_node}, Rings.{Rings, node_slot}, declared.links.Link.Link}

pub prev_of-requires : goal.prev_of-requires
prev_of-requires c =
    let r = c.self.inside in
    subst (λ (l : List Link). r.homes + c.args.slot < length l) (sym c.deref.ensures.value)
    (stored_low r.slots r.homes r.links.items c.args.self.now c.args.slot c.self.view_is c.requires)

pub returns-clause-finds : goal.returns-clause-finds
returns-clause-finds c =
    let r = c.self.inside in
    let w = c.self.invariant in
    let stored = r.links.items in
    let here = stored_low r.slots r.homes stored c.args.self.now c.args.slot c.self.view_is c.requires in
    let low : c.args.slot < c.args.self.now.slots = subst (λ (r : Rings). c.args.slot < r.slots) c.self.view_is (omega (arith, here, w.most)) in
    let read : c.prev_of.result ≡ prev_at stored (r.homes + c.args.slot) =
    c.prev_of.ensures ∙ ap (λ (l : List Link). prev_at l (r.homes + c.args.slot)) c.deref.ensures.value in
    finds_newer c.args.self.now r.slots r.homes (length stored - r.homes) (seen_links r.slots r.homes stored) (seen_links r.slots r.homes stored) c.args.slot
    (stored_node r.slots r.homes c.prev_of.result) c.slot_at.result c.self.view_is refl low
    (ap (stored_node r.slots r.homes) read ∙ before_seen r.slots r.homes r.links.cap stored c.args.slot w here)
    (found_seen c.args.self.now r.slots r.homes c.prev_of.result stored c.slot_at.result c.self.view_is
    (omega (arith, read, prev_few r.slots r.homes r.links.cap stored c.args.slot w here)) c.slot_at.ensures)

pub returns-clause-link : goal.returns-clause-link
returns-clause-link c =
    let r = c.self.inside in
    let w = c.self.invariant in
    let stored = r.links.items in
    let here = stored_low r.slots r.homes stored c.args.self.now c.args.slot c.self.view_is c.requires in
    let read : c.prev_of.result ≡ prev_at stored (r.homes + c.args.slot) =
    c.prev_of.ensures ∙ ap (λ (l : List Link). prev_at l (r.homes + c.args.slot)) c.deref.ensures.value in
    found_seen c.args.self.now r.slots r.homes c.prev_of.result stored c.slot_at.result c.self.view_is
    (omega (arith, read, prev_few r.slots r.homes r.links.cap stored c.args.slot w here)) c.slot_at.ensures
    ∙ ap (node_slot c.args.self.now.slots)
    (ap (stored_node r.slots r.homes) read ∙ before_seen r.slots r.homes r.links.cap stored c.args.slot w here
    ∙ ap (λ (n : Rings). prev_at n.links c.args.slot) c.self.view_is)

pub returns-clause-written : goal.returns-clause-written
returns-clause-written c =
    let r = c.self.inside in
    let w = c.self.invariant in
    let stored = r.links.items in
    let here = stored_low r.slots r.homes stored c.args.self.now c.args.slot c.self.view_is c.requires in
    let read : c.prev_of.result ≡ prev_at stored (r.homes + c.args.slot) =
    c.prev_of.ensures ∙ ap (λ (l : List Link). prev_at l (r.homes + c.args.slot)) c.deref.ensures.value in
    found_written c.args.self.now r.slots r.homes c.prev_of.result stored c.slot_at.result c.self.view_is
    (omega (arith, read, w.prev (r.homes + c.args.slot) here)) c.slot_at.ensures
