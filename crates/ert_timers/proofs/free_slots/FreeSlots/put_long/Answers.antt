use Rattle.std.proofs.Common.{◌≡◌, ◌∙◌, ◌<◌, false, List, ℕ, length, sym, ap, subst, arith}
use Rattle.std.specs.FinSet as set
use Rattle.ert_timers.proofs.Stacks.{IsPut, put_long}
use Rattle.ert_timers.specs.Free.{Free, free_at, free_set, with_long}
use Rattle.ert_timers.proofs.free_slots.FreeSlots.put_long.Goals as goal

pub push_reserved-requires : goal.push_reserved-requires
push_reserved-requires c =
    let f = c.self.inside in
    let put = put_long (free_at f.slots f.fresh f.short.items f.long.items) c.args.slot f.short.cap f.long.cap c.self.invariant
    (subst (λ (o : Free). c.args.slot < o.slots) (sym c.self.view_is) c.requires.in_range)
    (subst (λ (o : Free). set.contains (free_set o).held c.args.slot ≡ false) (sym c.self.view_is) c.requires.away) in
    let few : length f.long.items < f.slots = put.0 in
    omega (arith, few, f.long.ok.0, c.self.invariant.long_room.room)

put : (c : goal.After-push_reserved)
    → IsPut (free_at c.self.inside.slots c.self.inside.fresh c.self.inside.short.items c.self.inside.long.items)
    (with_long (free_at c.self.inside.slots c.self.inside.fresh c.self.inside.short.items c.self.inside.long.items) c.args.slot)
    c.args.slot c.self.inside.short.cap c.self.inside.long.cap
put c =
    let f = c.self.inside in
    (put_long (free_at f.slots f.fresh f.short.items f.long.items) c.args.slot f.short.cap f.long.cap c.self.invariant
    (subst (λ (o : Free). c.args.slot < o.slots) (sym c.self.view_is) c.requires.in_range)
    (subst (λ (o : Free). set.contains (free_set o).held c.args.slot ≡ false) (sym c.self.view_is) c.requires.away)).1

pub invariant_of-self : goal.invariant_of-self
invariant_of-self c = rw (c.push_reserved.ensures.capacity, c.push_reserved.ensures.items) (put c).left

pub returns-clause-top : goal.returns-clause-top
returns-clause-top c =
    let f = c.self.inside in
    subst (λ (old : Free). free_at f.slots f.fresh f.short.items c.push_reserved.new.self.items ≡ with_long old c.args.slot) c.self.view_is
    (ap (λ (xs : List ℕ). free_at f.slots f.fresh f.short.items xs) c.push_reserved.ensures.items)

pub returns-clause-held : goal.returns-clause-held
returns-clause-held c =
    let f = c.self.inside in
    subst (λ (old : Free). free_set (free_at f.slots f.fresh f.short.items c.push_reserved.new.self.items) ≡ record { slots = old.slots; held = set.insert (free_set old).held c.args.slot })
    c.self.view_is (ap (λ (xs : List ℕ). free_set (free_at f.slots f.fresh f.short.items xs)) c.push_reserved.ensures.items ∙ (put c).held)
