use Rattle.std.proofs.Common.{◌≡◌, ◌∙◌, Some, false, ap}
use Rattle.ert_c.proofs.Sharing.{opens_no_hub, opens_new_hub}
use Rattle.ert_c.specs.Places.{is_there}
use Rattle.ert_shard.specs.Hubs.{Rest}
use Rattle.ert_c.proofs.hub_exports.ert_hub_open.Goals as goal

pub returns-in_default-new : goal.returns-in_default-new
returns-in_default-new c =
    let closed : is_there c.args.hub.now.place.value ≡ false = c.args.hub.now.told ∙ c.if-hub.false in
    opens_no_hub c.args.settings.now c.args.hub.now.place.value c.in-Ok.settings closed c.in-Ok.ensures c.if-settings.false

pub returns : goal.returns
returns c =
    let closed : is_there c.args.hub.now.place.value ≡ false = c.args.hub.now.told ∙ c.if-hub.false in
    opens_new_hub c.args.settings.now c.args.hub.now.place.value c.in-Ok.settings c.in-Ok-open.opened c.new.result _ closed c.in-Ok.ensures c.if-settings.false
    c.in-Ok-open.ensures c.new.ensures (c.fill.ensures ∙ ap (λ (r : Rest). Some r) c.in-Ok-new.ensures.ok)
