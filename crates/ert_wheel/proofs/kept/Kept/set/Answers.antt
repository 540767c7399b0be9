use Rattle.std.proofs.Common.{◌<◌, ◌∙◌, length, arith}
use Rattle.ert_wheel.proofs.KeptSlots.{kept_len, kept_same_keys, kept_set_key, kept_set_value}
use Rattle.ert_wheel.proofs.kept.Kept.set.Goals as goal

pub index_mut-requires : goal.index_mut-requires
index_mut-requires g c = omega (arith, c.requires, c.self.inside.values.ok.0, kept_len _ _ _ _ c.self.view_is)

pub returns-clause-keys : goal.returns-clause-keys
returns-clause-keys g c = kept_set_key _ _ _ _ _ _ c.self.view_is

pub returns-clause-same : goal.returns-clause-same
returns-clause-same g c = λ same.
    let low : c.args.slot < length c.self.inside.values.items = omega (arith, c.requires, kept_len _ _ _ _ c.self.view_is) in
    kept_set_key _ _ _ _ _ _ c.self.view_is ∙ kept_same_keys _ _ _ _ _ _ c.self.view_is low same

pub returns-clause-values : goal.returns-clause-values
returns-clause-values g c = kept_set_value _ _ _ _ _ _ c.self.view_is
