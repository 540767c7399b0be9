use Rattle.std.proofs.Common.{◌≡◌, ◌<◌, ◌≤◌, ◌-◌, length, slice_index_or, Some, refl, sym, subst, ◌∙◌, arith}
use Rattle.std.proofs.lemmas.Option.{slice_get_read}
use Rattle.std.specs.{Arc.arc_value, List.slice_get}
use Rattle.ert_laws.specs.Counts.{entries_of, is_arm}
use Rattle.ert_shard.proofs.Cut.{told_unarmed, told_few, told_home, wheel_arms}
use Rattle.ert_shard.specs.Hubs.{Rest}
use Rattle.ert_world.specs.Parts.{parts_of}
use Rattle.ert_shard.proofs.hub.Hub.are_known.Goals as goal

pub returns-then-tally-eq0 : goal.returns-then-tally-eq0
returns-then-tally-eq0 c =
    let b = c.self.inside in
    let low : c.args.wheel < b.left = subst (λ (r : Rest). c.args.wheel < r.left) (sym c.self.view_is) c.requires in
    let arms = wheel_arms (arc_value b.desk) b.pass b.left b.first b.next b.homes.items (parts_of b.keeper b.wheels.items b.inboxes.items b.mails.items b.scheds.items)
    c.args.wheel c.index.result.now c.self.invariant.0 low c.index.ensures in
    told_unarmed c.args.self.now c.args.wheel c.args.from c.args.to
    (subst (λ (r : Rest). entries_of is_arm c.args.wheel r.history ≡ 0) c.self.view_is (sym arms ∙ (sym c.tally.ensures.arms ∙ c.if-tally-eq0.true)))

pub returns-then-len-after : goal.returns-then-len-after
returns-then-len-after c =
    let b = c.self.inside in
    let low : c.args.wheel < b.left = subst (λ (r : Rest). c.args.wheel < r.left) (sym c.self.view_is) c.requires in
    let arms = wheel_arms (arc_value b.desk) b.pass b.left b.first b.next b.homes.items (parts_of b.keeper b.wheels.items b.inboxes.items b.mails.items b.scheds.items)
    c.args.wheel c.index.result.now c.self.invariant.0 low c.index.ensures in
    let less = c.if-len-after.true in
    let size = c.len.ensures in
    let ok = b.homes.ok.0 in
    let few : length b.homes.items < b.left - c.args.wheel = omega (arith, less, size, ok) in
    told_few c.args.self.now c.args.wheel c.args.from c.args.to
    (λ none. c.if-tally-eq0.false (c.tally.ensures.arms ∙ (arms ∙ subst (λ (r : Rest). entries_of is_arm c.args.wheel r.history ≡ 0) (sym c.self.view_is) none)))
    (subst (λ (r : Rest). length r.homes < r.left - c.args.wheel) c.self.view_is few)

pub returns : goal.returns
returns c =
    let b = c.self.inside in
    let home = c.index-2.result.now in
    let after = b.left - c.args.wheel in
    let low : c.args.wheel < b.left = subst (λ (r : Rest). c.args.wheel < r.left) (sym c.self.view_is) c.requires in
    let arms = wheel_arms (arc_value b.desk) b.pass b.left b.first b.next b.homes.items (parts_of b.keeper b.wheels.items b.inboxes.items b.mails.items b.scheds.items)
    c.args.wheel c.index.result.now c.self.invariant.0 low c.index.ensures in
    let more = c.if-len-after.false in
    let size = c.len.ensures in
    let size_2 = c.len-2.ensures in
    let ok = b.homes.ok.0 in
    let few : after ≤ length b.homes.items = omega (arith, more, size, ok) in
    let place : c.len-2.result ≡ length b.homes.items = omega (arith, size_2, ok) in
    let at : home ≡ slice_index_or b.homes.items (length b.homes.items - after) home =
    subst (λ n. home ≡ slice_index_or b.homes.items (n - after) home) place c.index-2.ensures in
    let is : slice_get b.homes.items (length b.homes.items - after) ≡ Some home =
    slice_get_read b.homes.items (length b.homes.items) (length b.homes.items - after) home refl (omega (arith, few, low)) at in
    told_home c.args.self.now c.args.wheel c.args.from c.args.to home c.is_within.result
    (λ none. c.if-tally-eq0.false (c.tally.ensures.arms ∙ (arms ∙ subst (λ (r : Rest). entries_of is_arm c.args.wheel r.history ≡ 0) (sym c.self.view_is) none)))
    (subst (λ (r : Rest). r.left - c.args.wheel ≤ length r.homes) c.self.view_is few)
    (subst (λ (r : Rest). slice_get r.homes (length r.homes - (r.left - c.args.wheel)) ≡ Some home) c.self.view_is is) c.is_within.ensures
