-- Worked scenarios on requests, turns, monitors, and what is left at the end.

use Rattle.std.specs.Prelude.{ℕ, zero, suc, pos, true, false, List, [], ◌∷◌, ◌++◌}
use Rattle.ert_defs.specs.declared.{settings.Mode.TheVariants.Multi, timer.When.TheVariants.After}
use Rattle.ert_ops.specs.{Worked.{corrected, later, Scenario, plain}, declared.op.Op.Op, declared.op.Op.TheVariants.{Tick, Check, Notify, System, Info, Start, SendAfter, Cancel, CancelQuiet, Read, CancelAsync, ReadAsync, Serve, Turn}}
use Rattle.ert_ops.specs.{declared.op.Op.TheVariants.{Receive, Exit, Monitor, Demonitor}}

-- requests wait for their scheduler, and what no label names is told by its label
abbrev pub requests : Scenario
requests = record {
  settings = corrected;
  ops = Start 1 0 (After (pos 7)) 0 0
      ∷ ReadAsync 1 0 true
      ∷ Receive 0
      ∷ Serve 0
      ∷ Receive 0
      ∷ CancelAsync 9 0 true
      ∷ Serve 0
      ∷ Receive 0
      ∷ Serve 0
      ∷ [];
}

-- what was cancelled meanwhile has nothing left for them
abbrev pub too_late : Scenario
too_late = record {
  settings = record corrected { processes = 2 };
  ops = Start 1 0 (After (pos 9)) 0 0
      ∷ CancelAsync 1 1 true
      ∷ ReadAsync 1 1 true
      ∷ Cancel 1
      ∷ Turn 0
      ∷ Receive 1
      ∷ Receive 1
      ∷ Receive 0
      ∷ [];
}

-- an op so many times
abbrev pub op_repeated : ℕ → Op → List Op
op_repeated zero op = []
op_repeated (suc n) op = op ∷ op_repeated n op

-- a turn serves 64 requests of 65
abbrev pub many_requests : Scenario
many_requests = record {
  settings = corrected;
  ops = op_repeated 65 (ReadAsync 1 0 false) ++ Turn 0 ∷ Serve 0 ∷ Serve 0 ∷ [];
}

-- a bare timer, a request with no answer, and a cancel that tells nothing
abbrev pub quiet : Scenario
quiet = record {
  settings = plain;
  ops = SendAfter 1 0 (After (pos 3)) 0 55
      ∷ Start 2 0 (After (pos 4)) 0 66
      ∷ CancelAsync 2 0 false
      ∷ Serve 0
      ∷ Receive 0
      ∷ CancelQuiet 2
      ∷ Tick (pos 0) (pos 3000000)
      ∷ Turn 0
      ∷ Receive 0
      ∷ Receive 0
      ∷ [];
}

-- a monitor is told an offset once
abbrev pub monitors : Scenario
monitors = record {
  settings = later Multi;
  ops = Monitor 0
      ∷ Monitor 0
      ∷ Demonitor 0 0
      ∷ Demonitor 0 0
      ∷ Check (pos 0) (pos 9000000000)
      ∷ Notify 0
      ∷ Notify 0
      ∷ Receive 0
      ∷ Receive 0
      ∷ [];
}

-- 64 monitors stand at most
abbrev pub many_monitors : Scenario
many_monitors = record { settings = corrected; ops = op_repeated 65 (Monitor 0) }

-- a day of a service with two schedulers and three processes, in multi time warp mode
abbrev pub one_day : Scenario
one_day = record {
  settings = record corrected {
    mode = Multi;
    schedulers = 2;
    processes = 3;
    first = record { mono = pos 5000000000; sys = pos 1767225600000000000 };
  };
  ops = Info
      ∷ Monitor 0
      ∷ Start 1 0 (After (pos 1000)) 0 100
      ∷ Start 2 1 (After (pos 250)) 1 200
      ∷ Tick (pos 5250000000) (pos 1767225600250000000)
      ∷ Turn 1
      ∷ Receive 1
      ∷ Start 3 1 (After (pos 500)) 1 201
      ∷ CancelAsync 1 2 true
      ∷ Receive 2
      ∷ Tick (pos 5300000000) (pos 1767225600300000000)
      ∷ Turn 0
      ∷ Receive 2
      ∷ Check (pos 5400000000) (pos 1767225610400000000)
      ∷ System
      ∷ Notify 0
      ∷ Receive 0
      ∷ Read 3
      ∷ Exit 1
      ∷ Read 3
      ∷ Receive 1
      ∷ Tick (pos 65400000000) (pos 1767225670400000000)
      ∷ Turn 1
      ∷ [];
}

-- a timer that is cancelled, and then again
abbrev pub cancelled_once : Scenario
cancelled_once = record { settings = plain; ops = Start 1 0 (After (pos 50)) 0 7 ∷ Cancel 1 ∷ Cancel 1 ∷ Turn 0 ∷ [] }

-- a timer that expires before it can be cancelled
abbrev pub delivered_once : Scenario
delivered_once = record { settings = plain; ops = Start 1 0 (After (pos 1)) 0 7 ∷ Tick (pos 0) (pos 1000000) ∷ Turn 0 ∷ Cancel 1 ∷ Receive 0 ∷ [] }

-- a timer for a process that has exited
abbrev pub orphaned_once : Scenario
orphaned_once = record { settings = record plain { processes = 2 }; ops = Exit 1 ∷ Start 1 0 (After (pos 5)) 1 0 ∷ Read 1 ∷ [] }

-- a turn of a service without timers
abbrev pub idle_turn : Scenario
idle_turn = record { settings = record plain { mode = Multi; schedulers = 4; processes = 8; slots = 4096 }; ops = Turn 2 ∷ [] }
