use Rattle.std.proofs.Common.{◌≡◌, IfSome, ap, length, refl, slice_get, subst, sym}
use Rattle.ert_wheel.proofs.Writes.{sees, low_in, alike_after, is_held, is_kept, stored_as}
use Rattle.ert_wheel.proofs.wheel.Wheel.change.Goals as goal
use Rattle.ert_wheel.specs.Rows.{Held}

pub set-requires : goal.set-requires
set-requires g c = (low_in c.args.slot c.self.invariant c.self.view_is c.requires.written).low_record

pub invariant_of-self : goal.invariant_of-self
invariant_of-self g c =
    let same =
    c.set.ensures.same (subst (λ (h : Held _). IfSome (slice_get h.values c.args.slot) (λ old. g.T.Keyed.key c.args.value ≡ g.T.Keyed.key old))
    (sym c.self.view_is) c.requires.same) in
    record {
      rows = is_kept (stored_as same (sees c.self.invariant.rows c.self.view_is));
      alike = alike_after c.self.invariant.alike (ap length same) c.set.ensures.room refl refl refl refl;
    }

pub returns-clause-keys : goal.returns-clause-keys
returns-clause-keys g c =
    let same =
    c.set.ensures.same (subst (λ (h : Held _). IfSome (slice_get h.values c.args.slot) (λ old. g.T.Keyed.key c.args.value ≡ g.T.Keyed.key old))
    (sym c.self.view_is) c.requires.same) in
    is_held (stored_as same (sees c.self.invariant.rows c.self.view_is))
