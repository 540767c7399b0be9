use Rattle.std.proofs.Common.{◌≡◌, ◌<◌, length, ap, subst, ◌∙◌, arith}
use Rattle.std.specs.{Arc.arc_value, Vec.vec_len}
use Rattle.ert_defs.specs.declared.settings.Settings.{Settings}
use Rattle.ert_shard.proofs.Parted.{fresh}
use Rattle.ert_table.specs.Desks.{settings_of}
use Rattle.ert_world.specs.{Parts.parts_of, Worlds.Seen}
use Rattle.ert_shard.proofs.hub.Hub.new.Goals as goal

pub invariant_of-result : goal.invariant_of-result
invariant_of-result c =
    let p = c.into_parts-desk.result in
    let d = arc_value p.desk in
    let fit = c.into_parts-desk.ensures.fit in
    let callers : (settings_of d).schedulers < (settings_of d).callers =
    subst (λ (g : Settings). g.schedulers < g.callers) (ap (λ (w : Seen). w.settings) c.into_parts-desk.ensures.same) c.requires.callers in
    let wheels = fit.stand.wheels.counted in
    let inboxes = fit.stand.inboxes.counted in
    let mails = fit.stand.mails.counted in
    let scheds = fit.stand.scheds.counted in
    let wheels_ok = p.wheels.ok in
    let inboxes_ok = p.inboxes.ok in
    let mails_ok = p.mails.ok in
    let scheds_ok = p.scheds.ok in
    let none : vec_len c.new-homes.result ≡ 0 = c.new-homes.result.ok.0 ∙ ap length c.new-homes.ensures.items in
    rw (c.into_parts-desk.ensures.settings, c.new-homes.ensures.items) (
      fresh d p.pass (parts_of p.keeper p.wheels.items p.inboxes.items p.mails.items p.scheds.items) callers fit,
      record {
        wheels_room = omega (arith, wheels, wheels_ok);
        inboxes_room = omega (arith, inboxes, inboxes_ok);
        mails_room = omega (arith, mails, mails_ok);
        scheds_room = omega (arith, scheds, scheds_ok);
      },
      omega (arith, none),
    )
