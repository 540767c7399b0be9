use Rattle.std.proofs.Common.{◌≡◌}
use Rattle.ert_defs.specs.{States.state, declared.timer.Status.TheVariants.Armed}
use Rattle.ert_laws.specs.Counts.{count_in, entries_of, is_arm, is_expire, is_orphan, total}
use Rattle.ert_world.proofs.world.World.tally.Given as goal

abbrev pub invariant-loop-wheel : goal.invariant-loop-wheel
invariant-loop-wheel l = record {
  arms : l.all.arms ≡ total (λ w. entries_of is_arm w l.fn.self.history) l.wheel;
  expires : l.all.expires ≡ total (λ w. entries_of is_expire w l.fn.self.history) l.wheel;
  orphans : l.all.orphans ≡ total (λ w. entries_of is_orphan w l.fn.self.history) l.wheel;
  rows : l.all.rows ≡ count_in (state l.fn.self.settings l.fn.self.history) Armed l.wheel;
}
