use Rattle.std.proofs.Common.{◌≡◌, ◌-◌, ◌<◌, ◌∙◌, List, length, refl, sym, ap, subst, arith}
use Rattle.ert_wheel.proofs.{Calls.finds_newest, Stored.{first_seen, found_seen, found_written}}
use Rattle.ert_wheel.proofs.chains.Chains.newest.Goals as goal
use Rattle.ert_wheel.specs.{Links.{next_at, seen_links, stored_node}, Rings.Rings, declared.links.Link.Link}

pub next_of-requires : goal.next_of-requires
next_of-requires c =
    let low = subst (λ (r : Rings). c.args.home < r.homes) (sym c.self.view_is) c.requires in
    subst (λ (l : List Link). c.args.home < length l) (sym c.deref.ensures.value) (omega (arith, low, c.self.invariant.heads))

pub returns-clause-finds : goal.returns-clause-finds
returns-clause-finds c =
    let r = c.self.inside in
    let w = c.self.invariant in
    let stored = r.links.items in
    let low = subst (λ (r : Rings). c.args.home < r.homes) (sym c.self.view_is) c.requires in
    let read : c.next_of.result ≡ next_at stored c.args.home = c.next_of.ensures ∙ ap (λ (l : List Link). next_at l c.args.home) c.deref.ensures.value in
    finds_newest c.args.self.now r.slots r.homes (length stored - r.homes) (seen_links r.slots r.homes stored) (seen_links r.slots r.homes stored) c.args.home
    (stored_node r.slots r.homes c.next_of.result) c.slot_at.result c.self.view_is refl c.requires
    (ap (stored_node r.slots r.homes) read ∙ first_seen r.slots r.homes r.links.cap stored c.args.home w low)
    (found_seen c.args.self.now r.slots r.homes c.next_of.result stored c.slot_at.result c.self.view_is
    (omega (arith, read, w.next c.args.home (omega (arith, low, w.heads)), w.most)) c.slot_at.ensures)

pub returns-clause-written : goal.returns-clause-written
returns-clause-written c =
    let r = c.self.inside in
    let w = c.self.invariant in
    let low = subst (λ (r : Rings). c.args.home < r.homes) (sym c.self.view_is) c.requires in
    let read : c.next_of.result ≡ next_at r.links.items c.args.home = c.next_of.ensures ∙ ap (λ (l : List Link). next_at l c.args.home) c.deref.ensures.value in
    found_written c.args.self.now r.slots r.homes c.next_of.result r.links.items c.slot_at.result c.self.view_is
    (omega (arith, read, w.next c.args.home (omega (arith, low, w.heads)))) c.slot_at.ensures
