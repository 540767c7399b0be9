use Rattle.std.proofs.Common.{◌<◌, ◌∙◌, ap, length, arith}
use Rattle.ert_wheel.proofs.KeptSlots.{kept_len, key_read}
use Rattle.ert_wheel.proofs.kept.Kept.order.Goals as goal
use Rattle.ert_wheel.specs.declared.row.Key.{Key}

pub index-requires : goal.index-requires
index-requires g c = omega (arith, c.requires, c.self.inside.values.ok.0, kept_len _ _ _ _ c.self.view_is)

pub returns : goal.returns
returns g c =
    let low : c.args.slot < length c.self.inside.values.items = omega (arith, c.requires, kept_len _ _ _ _ c.self.view_is) in
    c.order.ensures ∙ ap (λ (key : Key). key.order) (key_read _ _ _ _ _ _ c.self.view_is low c.index.ensures)
