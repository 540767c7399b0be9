-- Worked scenarios on timers, their slots, and exits.

use Rattle.std.specs.Prelude.{true, pos, negsuc, [], ◌∷◌}
use Rattle.ert_defs.specs.declared.timer.When.TheVariants.{After, At}
use Rattle.ert_ops.specs.{Worked.{corrected, Scenario, plain}, declared.op.Op.TheVariants.{Tick, Start, Cancel, Read, ReadAsync, Serve, Advance, Deliver, Turn, Receive, Exit, Alive, Time}}

-- a deadline is rounded up and a look down: at 0.5 milliseconds a timer of 10 is due at 11
abbrev pub rounding : Scenario
rounding = record {
  settings = plain;
  ops = Tick (pos 0) (pos 500000)
      ∷ Start 1 0 (After (pos 10)) 0 77
      ∷ Read 1
      ∷ Tick (pos 0) (pos 10900000)
      ∷ Read 1
      ∷ Advance 0
      ∷ Tick (pos 0) (pos 11000000)
      ∷ Advance 0
      ∷ Deliver 0
      ∷ Receive 0
      ∷ Read 1
      ∷ Receive 0
      ∷ [];
}

-- a cancelled timer can't be cancelled again, nor an expired one, nor what no label names
abbrev pub cancelled_again : Scenario
cancelled_again = record {
  settings = plain;
  ops = Start 1 0 (After (pos 5)) 0 7
      ∷ Cancel 1
      ∷ Cancel 1
      ∷ Cancel 9
      ∷ Start 2 0 (After (pos 1)) 0 8
      ∷ Tick (pos 0) (pos 1000000)
      ∷ Advance 0
      ∷ Cancel 2
      ∷ Receive 0
      ∷ Deliver 0
      ∷ Receive 0
      ∷ [];
}

-- the limits of deadlines; a deadline that has passed is allowed
abbrev pub deadlines : Scenario
deadlines = record {
  settings = plain;
  ops = Start 1 0 (After (negsuc 0)) 0 0
      ∷ Start 2 0 (At (pos 8796093022207)) 0 0
      ∷ Start 3 0 (At (pos 8796093022208)) 0 0
      ∷ Start 4 0 (After (pos 8796093022207)) 0 0
      ∷ Tick (pos 0) (pos 10000000)
      ∷ Start 5 0 (After (pos 8796093022207)) 0 0
      ∷ Start 6 0 (At (pos 3)) 0 6
      ∷ Read 6
      ∷ Advance 0
      ∷ [];
}

-- absolute times before 0, by a start time before 0
abbrev pub times_below_zero : Scenario
times_below_zero = record {
  settings = record plain { start = negsuc 999999999 };
  ops = Time ∷ Start 1 0 (At (negsuc 1000)) 0 0 ∷ Start 2 0 (At (negsuc 999)) 0 0 ∷ Advance 0 ∷ [];
}

-- timers of one deadline expire as they were started, and a far one later
abbrev pub in_order : Scenario
in_order = record {
  settings = plain;
  ops = Start 1 0 (After (pos 1029)) 0 1
      ∷ Start 2 0 (After (pos 5)) 0 2
      ∷ Start 3 0 (After (pos 5)) 0 3
      ∷ Tick (pos 0) (pos 5000000)
      ∷ Turn 0
      ∷ Receive 0
      ∷ Receive 0
      ∷ Receive 0
      ∷ Tick (pos 0) (pos 1029000000)
      ∷ Turn 0
      ∷ Receive 0
      ∷ [];
}

-- the only slot is taken while its timer is armed or expired
abbrev pub one_slot : Scenario
one_slot = record {
  settings = record plain { slots = 1 };
  ops = Start 1 0 (After (pos 4)) 0 0
      ∷ Start 2 0 (After (pos 4)) 0 0
      ∷ Cancel 1
      ∷ Start 3 0 (After (pos 6)) 0 0
      ∷ Read 1
      ∷ Read 3
      ∷ Tick (pos 0) (pos 6000000)
      ∷ Advance 0
      ∷ Start 4 0 (After (pos 1)) 0 0
      ∷ Deliver 0
      ∷ Start 5 0 (After (pos 1)) 0 0
      ∷ Read 5
      ∷ [];
}

-- an exit cancels the timers of its process in every wheel, and their expired ones are dropped
abbrev pub exits : Scenario
exits = record {
  settings = record corrected { schedulers = 2; processes = 3 };
  ops = Start 1 0 (After (pos 5)) 1 0
      ∷ Start 2 1 (After (pos 5)) 1 0
      ∷ Start 3 0 (After (pos 5)) 0 0
      ∷ Start 5 0 (After (pos 0)) 2 9
      ∷ Advance 0
      ∷ Exit 2
      ∷ Deliver 0
      ∷ Exit 1
      ∷ Read 1
      ∷ Read 2
      ∷ Read 3
      ∷ Start 4 0 (After (pos 5)) 1 0
      ∷ Read 4
      ∷ Receive 1
      ∷ Exit 1
      ∷ Alive 1
      ∷ Alive 0
      ∷ [];
}

-- a timer that is started for an exited process takes no slot
abbrev pub orphan : Scenario
orphan = record {
  settings = record corrected { processes = 2; slots = 1 };
  ops = Exit 1
      ∷ Start 1 0 (After (pos 3)) 1 0
      ∷ Start 2 0 (After (pos 3)) 0 0
      ∷ Start 3 0 (After (pos 3)) 0 0
      ∷ [];
}

-- timers of one deadline expire as they were started, whatever their labels
abbrev pub by_starting : Scenario
by_starting = record {
  settings = plain;
  ops = Start 9 0 (After (pos 5)) 0 1
      ∷ Start 2 0 (After (pos 5)) 0 2
      ∷ Tick (pos 0) (pos 5000000)
      ∷ Turn 0
      ∷ Receive 0
      ∷ Receive 0
      ∷ [];
}

-- the label of a start that was refused isn't bound
abbrev pub refused_label : Scenario
refused_label = record {
  settings = record plain { slots = 1 };
  ops = Start 1 0 (After (pos 4)) 0 0
      ∷ Start 2 0 (After (pos 4)) 0 0
      ∷ Cancel 2
      ∷ ReadAsync 2 0 true
      ∷ Serve 0
      ∷ Receive 0
      ∷ Read 1
      ∷ [];
}
