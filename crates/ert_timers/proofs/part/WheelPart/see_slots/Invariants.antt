use Rattle.std.specs.Prelude.{◌≤◌}
use Rattle.ert_table.specs.Desks.{settings_of, view_of, state_of, Belongs}
use Rattle.ert_timers.specs.{Parts.HoldsCaller, Rooms.{FindsFree, SeesSome}}
use Rattle.ert_timers.proofs.Standing.{clock_at}
use Rattle.ert_timers.proofs.part.WheelPart.see_slots.Given as goal

abbrev pub invariant-loop-slot : goal.invariant-loop-slot
invariant-loop-slot l = record {
  belongs : Belongs l.desk l.pass;
  holds : HoldsCaller (settings_of l.desk) (view_of l.pass) l.by l.self.number;
  call : SeesSome (settings_of l.desk) (view_of l.fn.pass) l.by l.now l.self l.slot l.room (view_of l.pass);
  first : FindsFree (settings_of l.desk) (state_of l.desk l.pass) l.self l.room l.first;
  past : l.now ≤ clock_at (settings_of l.desk) (state_of l.desk l.pass);
}
