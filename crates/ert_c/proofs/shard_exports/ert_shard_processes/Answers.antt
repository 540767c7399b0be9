use Rattle.std.proofs.Common.{refl, ◌∙◌}
use Rattle.ert_c.proofs.Sharing.{made_through}
use Rattle.ert_c.proofs.shard_exports.ert_shard_processes.Goals as goal

pub returns : goal.returns
returns c = made_through _ _ _ _ _ c.lend-own.result.now c.lend-own.result.now (c.as_place.ensures.value ∙ c.lend-own.ensures.value) refl
    (record { told = refl; from_is = c.from.ensures; to_is = c.to.ensures; unchanged = refl })
