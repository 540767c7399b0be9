use Rattle.std.proofs.Common.{◌+◌, ap, refl, subst, sym, List, Option, arith}
use Rattle.ert_wheel.proofs.Writes.{sees, alike_after, is_held, is_kept, may_move, moved, keys_of, owners_of, passed_of}
use Rattle.ert_wheel.proofs.wheel.Wheel.pass.Goals as goal
use Rattle.ert_wheel.specs.{Falling.MayMoveOn, Wheels.AreLevelChains, declared.row.Key.Key, Rows.Held, Standing.{homes_of, StayOrFall}}

pub move_on-self-inside-requires-clause-may : goal.move_on-self-inside-requires-clause-may
move_on-self-inside-requires-clause-may g c =
    let chains = c.self.inside.buckets in
    subst (λ (keys : List (Option Key)). MayMoveOn chains keys c.self.inside.next_time c.max-next_time.result)
    (sym (ap keys_of c.self.view_is))
    (may_move c.args.to (sees c.self.invariant.rows c.self.view_is).wheel c.requires
    (omega (arith, c.max-next_time.ensures)) (omega (arith, c.max-next_time.ensures, c.min-after.ensures))
    (omega (arith, c.max-next_time.ensures, c.min-after.ensures, c.self.invariant.rows.wheel.time)))

pub move_on-self-inside-requires-clause-kept : goal.move_on-self-inside-requires-clause-kept
move_on-self-inside-requires-clause-kept g c = c.self.invariant.alike.records

pub invariant_of-self : goal.invariant_of-self
invariant_of-self g c = record {
  alike = alike_after c.self.invariant.alike refl refl c.move_on-self-inside.ensures.slots c.move_on-self-inside.ensures.written refl refl;
  rows = is_kept (moved c.args.to (c.min-after.result + 1) c.self.inside.ordered.rising (sees c.self.invariant.rows c.self.view_is) c.requires (omega (arith, c.min-after.ensures)) c.max-self-inside.ensures
      (omega (arith, c.max-next_time.ensures, c.min-after.ensures, c.self.invariant.rows.wheel.time))
      c.move_on-self-inside.ensures.slots c.move_on-self-inside.ensures.homes
      (subst (λ (keys : List (Option Key)). AreLevelChains c.max-next_time.result 1 c.move_on-self-inside.new.chains keys) (ap keys_of c.self.view_is)
      c.move_on-self-inside.ensures.moved));
}

pub returns-clause-keys : goal.returns-clause-keys
returns-clause-keys g c =
    is_held (moved c.args.to (c.min-after.result + 1) c.self.inside.ordered.rising (sees c.self.invariant.rows c.self.view_is) c.requires (omega (arith, c.min-after.ensures)) c.max-self-inside.ensures
    (omega (arith, c.max-next_time.ensures, c.min-after.ensures, c.self.invariant.rows.wheel.time))
    c.move_on-self-inside.ensures.slots c.move_on-self-inside.ensures.homes
    (subst (λ (keys : List (Option Key)). AreLevelChains c.max-next_time.result 1 c.move_on-self-inside.new.chains keys) (ap keys_of c.self.view_is)
    c.move_on-self-inside.ensures.moved))

pub returns-clause-owners : goal.returns-clause-owners
returns-clause-owners g c = ap owners_of c.self.view_is

pub returns-clause-passed : goal.returns-clause-passed
returns-clause-passed g c = omega (arith, ap passed_of c.self.view_is, c.max-next_time.ensures, c.min-after.ensures)

pub returns-clause-stands : goal.returns-clause-stands
returns-clause-stands g c =
    subst (λ (h : Held _). StayOrFall h.keys c.max-next_time.result h.stands (homes_of c.move_on-self-inside.new.chains)) c.self.view_is
    c.move_on-self-inside.ensures.stands
