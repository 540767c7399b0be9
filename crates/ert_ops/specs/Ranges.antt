-- The ranges of the arguments of ops.

use Rattle.std.specs.Prelude.{ℕ, ◌<◌, ◌≤◌, List, [], ◌∷◌}
use Rattle.ert_defs.specs.{Readings.IsValid, declared.settings.Settings.Settings}
use Rattle.ert_ops.specs.declared.op.Op.{Op}
use Rattle.ert_ops.specs.declared.op.Op.TheVariants.{Tick, Check, Finalize, Notify, Time, System, Offset, Info, Convert, Start, SendAfter, Cancel, CancelQuiet, Read, CancelAsync, ReadAsync, Serve, Advance, Deliver, Turn, Receive, Exit, Alive, Monitor, Demonitor}

-- a label (profile)
abbrev pub IsLabel : ℕ → Type 0
IsLabel label = label ≤ 999999

-- a process of the service
abbrev pub IsProcess : Settings → ℕ → Type 0
IsProcess g process = process < g.processes

-- a scheduler of the service
abbrev pub IsScheduler : Settings → ℕ → Type 0
IsScheduler g sched = sched < g.schedulers

-- the arguments of an op are in range, where a service was opened with the settings
abbrev pub IsOpInRange : Settings → Op → Type 0
IsOpInRange g (Tick mono sys) = IsValid (record { mono = mono; sys = sys })
IsOpInRange g (Check mono sys) = IsValid (record { mono = mono; sys = sys })
IsOpInRange g (Finalize mono sys) = IsValid (record { mono = mono; sys = sys })
IsOpInRange g (Notify process) = IsProcess g process
IsOpInRange g Time = Unit {0}
IsOpInRange g System = Unit {0}
IsOpInRange g Offset = Unit {0}
IsOpInRange g Info = Unit {0}
IsOpInRange g (Convert time from to) = Unit {0}
IsOpInRange g (Start label wheel when dest msg) = IsLabel label × IsScheduler g wheel × IsProcess g dest
IsOpInRange g (SendAfter label wheel when dest msg) = IsLabel label × IsScheduler g wheel × IsProcess g dest
IsOpInRange g (Cancel label) = IsLabel label
IsOpInRange g (CancelQuiet label) = IsLabel label
IsOpInRange g (Read label) = IsLabel label
IsOpInRange g (CancelAsync label process info) = IsLabel label × IsProcess g process
IsOpInRange g (ReadAsync label process info) = IsLabel label × IsProcess g process
IsOpInRange g (Serve sched) = IsScheduler g sched
IsOpInRange g (Advance sched) = IsScheduler g sched
IsOpInRange g (Deliver sched) = IsScheduler g sched
IsOpInRange g (Turn sched) = IsScheduler g sched
IsOpInRange g (Receive process) = IsProcess g process
IsOpInRange g (Exit process) = IsProcess g process
IsOpInRange g (Alive process) = IsProcess g process
IsOpInRange g (Monitor process) = IsProcess g process
IsOpInRange g (Demonitor process monitor) = IsProcess g process × (monitor ≤ 4294967295)

-- the arguments of all ops are
abbrev pub AreOpsInRange : Settings → List Op → Type 0
AreOpsInRange g [] = Unit {0}
AreOpsInRange g (op ∷ ops) = IsOpInRange g op × AreOpsInRange g ops
