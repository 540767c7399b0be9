use Rattle.std.proofs.Common.{◌-◌, ◌≤◌, min, count_by, length, vec_capacity}
use Rattle.std.specs.Option.{is_some}
use Rattle.ert_table.specs.Desks.{settings_of, view_of, Belongs}
use Rattle.ert_timers.specs.{Parts.HoldsSched, Trying.{IsLooked, TriesRows}}
use Rattle.ert_timers.proofs.part.WheelPart.try_some.Given as goal

abbrev pub invariant-loop-row : goal.invariant-loop-row
invariant-loop-row l = record {
  belongs : Belongs l.desk l.pass;
  holds : HoldsSched (view_of l.pass) l.self.number;
  call : TriesRows (settings_of l.desk) (view_of l.initial.pass) l.initial.self l.self l.to (l.most - l.left) l.initial.expired l.expired (view_of l.pass);
  looked : IsLooked (settings_of l.desk) (view_of l.pass).front l.self l.to;
  few : l.left ≤ l.most;
  room : min l.left (count_by is_some l.self.keys) ≤ l.expired.room;
  spare : length l.self.keys ≤ vec_capacity l.scratch;
}

abbrev pub decreases-loop-row : goal.decreases-loop-row
decreases-loop-row l = l.left
