use Rattle.std.proofs.Common.{◌≤◌, is_ok, sym, ap, subst, arith}
use Rattle.ert_wheel.proofs.KeptSlots.{filled, kept_len, kept_more_keys, kept_more_values}
use Rattle.ert_wheel.proofs.kept.Kept.write_up_to.Goals as goal
use Rattle.ert_wheel.specs.Kept.{KeptSlots}

pub returns-clause-keys : goal.returns-clause-keys
returns-clause-keys g c =
    let r = c.self.inside.values in
    let room = subst (λ (k : KeptSlots _). c.args.count ≤ k.room) (sym c.self.view_is) c.requires.room in
    kept_more_keys _ _ _ _ _ _ _ c.self.view_is
    (filled r.items c.resize.new.self.items c.args.count r.len _ (is_ok c.resize.result) (c.resize.ensures.succeeds room) r.ok.0
    (omega (arith, c.requires.more, kept_len _ _ _ _ c.self.view_is)) c.resize.ensures.items)

pub returns-clause-values : goal.returns-clause-values
returns-clause-values g c =
    let r = c.self.inside.values in
    let room = subst (λ (k : KeptSlots _). c.args.count ≤ k.room) (sym c.self.view_is) c.requires.room in
    kept_more_values _ _ _ _ _ _ _ c.self.view_is
    (filled r.items c.resize.new.self.items c.args.count r.len _ (is_ok c.resize.result) (c.resize.ensures.succeeds room) r.ok.0
    (omega (arith, c.requires.more, kept_len _ _ _ _ c.self.view_is)) c.resize.ensures.items)

pub returns-clause-room : goal.returns-clause-room
returns-clause-room g c = omega (arith, ap (λ (k : KeptSlots _). k.room) c.self.view_is, c.resize.ensures.capacity)
