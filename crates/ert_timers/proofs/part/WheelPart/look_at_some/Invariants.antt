use Rattle.std.specs.Prelude.{◌≤◌}
use Rattle.ert_defs.specs.{Milliseconds.{natural, down}, States.state}
use Rattle.ert_table.specs.Desks.{settings_of, view_of, front_of, Belongs}
use Rattle.ert_timers.specs.{Starting.LooksAtSome, Parts.HoldsCaller}
use Rattle.ert_timers.proofs.part.WheelPart.look_at_some.Given as goal

abbrev pub invariant-loop-slot : goal.invariant-loop-slot
invariant-loop-slot l = record {
  belongs : Belongs l.desk l.pass;
  holds : HoldsCaller (settings_of l.desk) (view_of l.pass) l.by l.self.number;
  call : LooksAtSome (settings_of l.desk) (view_of l.initial.pass) l.by l.now l.initial.self l.self l.from l.slot (view_of l.pass);
  past : l.now ≤ natural (down (settings_of l.desk) (state (settings_of l.desk) (front_of l.pass)).clock.now);
}
