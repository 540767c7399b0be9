use Rattle.std.proofs.Common.{refl, ◌∙◌, rules}
use Rattle.ert_c.proofs.Sharing.{made_through}
use Rattle.ert_c.proofs.shard_exports.ert_shard_system_time.Goals as goal

pub returns : goal.returns
returns c = made_through _ _ _ _ _ c.lend.result.now c.system_time.new.self (c.as_place.ensures.value ∙ c.lend.ensures.value) refl
    (record { told = refl; steps = search rules })
