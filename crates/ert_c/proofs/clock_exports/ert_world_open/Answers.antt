use Rattle.std.proofs.Common.{◌≡◌, ◌∙◌, false}
use Rattle.ert_c.proofs.Ways.{opens_nothing}
use Rattle.ert_c.proofs.clock_exports.ert_world_open.Goals as goal
use Rattle.ert_c.specs.Places.{is_there}

pub returns-in_default-new : goal.returns-in_default-new
returns-in_default-new c =
    let closed : is_there c.args.world.now.place.value ≡ false = c.args.world.now.told ∙ c.if-world.false in
    opens_nothing c.args.settings.now c.args.world.now.place.value c.in-Ok.settings closed c.in-Ok.ensures
