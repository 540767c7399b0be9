use Rattle.std.proofs.Common.{◌≡◌, IfSome, sym, subst, ap, ◌∙◌, arith}
use Rattle.std.proofs.lemmas.Option.{slice_get_within}
use Rattle.ert_timers.proofs.{AllSlots.all_changed, Joined.joined_left}
use Rattle.ert_timers.specs.{Parts.all_slots, Slots.stored_key, declared.slot.Stored.Stored}
use Rattle.ert_timers.proofs.part.changes.part_from.Goals as goal
use Rattle.ert_wheel.specs.Rings.{Rings, GivesUpPlace, MayTake}

pub change-requires-clause-same : goal.change-requires-clause-same
change-requires-clause-same c =
    subst (λ o. IfSome o (λ (old : Stored). stored_key c.apart.result ≡ stored_key old)) (sym c.value-stored.ensures) c.apart.ensures.key

pub disown-requires-clause-may : goal.disown-requires-clause-may
disown-requires-clause-may c = subst (λ (r : Rings). MayTake r c.args.slot) (sym c.change.ensures.owners) c.requires.may

pub disown-requires-clause-written : goal.disown-requires-clause-written
disown-requires-clause-written c = omega (arith, c.requires.written, ap (λ (r : Rings). r.written) c.change.ensures.owners)

pub returns-clause-stored : goal.returns-clause-stored
returns-clause-stored c = λ n.
    ap (λ vs. all_slots vs n) (c.disown.ensures.values ∙ c.change.ensures.values)
    ∙ all_changed c.args.wheel.now.values c.args.slot c.value-stored.result c.apart.result c.value-stored.ensures c.apart.ensures.slot n

pub returns-clause-parted : goal.returns-clause-parted
returns-clause-parted c =
    subst (λ (r : Rings). GivesUpPlace r c.disown.new.self.owners c.args.slot) c.change.ensures.owners c.disown.ensures.disowned

pub returns-clause-joined : goal.returns-clause-joined
returns-clause-joined c = λ joined.
    let may = c.requires.may in
    let parted = subst (λ (r : Rings). GivesUpPlace r c.disown.new.self.owners c.args.slot) c.change.ensures.owners c.disown.ensures.disowned in
    joined_left c.args.wheel.now.values c.disown.new.self.values c.args.wheel.now.owners c.disown.new.self.owners may.places c.args.slot c.apart.result
    may.are (parted may.places may.are) (c.disown.ensures.slots ∙ ap (λ (r : Rings). r.slots) c.change.ensures.owners)
    (slice_get_within c.args.wheel.now.values c.args.slot c.value-stored.result c.value-stored.ensures) (c.disown.ensures.values ∙ c.change.ensures.values)
    c.apart.ensures.apart joined
