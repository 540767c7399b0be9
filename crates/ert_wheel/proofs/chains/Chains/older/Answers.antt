use Rattle.std.proofs.Common.{◌≡◌, ◌+◌, ◌-◌, ◌<◌, ◌∙◌, List, length, refl, sym, ap, subst, arith}
use Rattle.ert_wheel.proofs.{Calls.finds_older, Stored.{after_seen, found_seen, found_written, next_few, stored_low}}
use Rattle.ert_wheel.proofs.chains.Chains.older.Goals as goal
use Rattle.ert_wheel.specs.{Links.{next_at, seen_links, stored_node}, Rings.{Rings, node_slot}, declared.links.Link.Link}

pub next_of-requires : goal.next_of-requires
next_of-requires c =
    let r = c.self.inside in
    subst (λ (l : List Link). r.homes + c.args.slot < length l) (sym c.deref.ensures.value)
    (stored_low r.slots r.homes r.links.items c.args.self.now c.args.slot c.self.view_is c.requires)

pub returns-clause-finds : goal.returns-clause-finds
returns-clause-finds c =
    let r = c.self.inside in
    let w = c.self.invariant in
    let stored = r.links.items in
    let here = stored_low r.slots r.homes stored c.args.self.now c.args.slot c.self.view_is c.requires in
    let low : c.args.slot < c.args.self.now.slots = subst (λ (r : Rings). c.args.slot < r.slots) c.self.view_is (omega (arith, here, w.most)) in
    let read : c.next_of.result ≡ next_at stored (r.homes + c.args.slot) =
    c.next_of.ensures ∙ ap (λ (l : List Link). next_at l (r.homes + c.args.slot)) c.deref.ensures.value in
    finds_older c.args.self.now r.slots r.homes (length stored - r.homes) (seen_links r.slots r.homes stored) (seen_links r.slots r.homes stored) c.args.slot
    (stored_node r.slots r.homes c.next_of.result) c.slot_at.result c.self.view_is refl low
    (ap (stored_node r.slots r.homes) read ∙ after_seen r.slots r.homes r.links.cap stored c.args.slot w here)
    (found_seen c.args.self.now r.slots r.homes c.next_of.result stored c.slot_at.result c.self.view_is
    (omega (arith, read, next_few r.slots r.homes r.links.cap stored c.args.slot w here)) c.slot_at.ensures)

pub returns-clause-written : goal.returns-clause-written
returns-clause-written c =
    let r = c.self.inside in
    let w = c.self.invariant in
    let stored = r.links.items in
    let here = stored_low r.slots r.homes stored c.args.self.now c.args.slot c.self.view_is c.requires in
    let read : c.next_of.result ≡ next_at stored (r.homes + c.args.slot) =
    c.next_of.ensures ∙ ap (λ (l : List Link). next_at l (r.homes + c.args.slot)) c.deref.ensures.value in
    found_written c.args.self.now r.slots r.homes c.next_of.result stored c.slot_at.result c.self.view_is
    (omega (arith, read, w.next (r.homes + c.args.slot) here)) c.slot_at.ensures

pub returns-clause-link : goal.returns-clause-link
returns-clause-link c =
    let r = c.self.inside in
    let w = c.self.invariant in
    let stored = r.links.items in
    let here = stored_low r.slots r.homes stored c.args.self.now c.args.slot c.self.view_is c.requires in
    let read : c.next_of.result ≡ next_at stored (r.homes + c.args.slot) =
    c.next_of.ensures ∙ ap (λ (l : List Link). next_at l (r.homes + c.args.slot)) c.deref.ensures.value in
    found_seen c.args.self.now r.slots r.homes c.next_of.result stored c.slot_at.result c.self.view_is
    (omega (arith, read, next_few r.slots r.homes r.links.cap stored c.args.slot w here)) c.slot_at.ensures
    ∙ ap (node_slot c.args.self.now.slots)
    (ap (stored_node r.slots r.homes) read ∙ after_seen r.slots r.homes r.links.cap stored c.args.slot w here
    ∙ ap (λ (n : Rings). next_at n.links c.args.slot) c.self.view_is)
