-- The ranges of settings and of ops, as tests.

use Rattle.std.specs.Prelude.{◌*◌, ℕ, pos, negsuc, ℤ, Bool, true, ◌&&◌, int_lt, int_le, nat_le, nat_lt}
use Rattle.std.specs.{Int.int_rem_euclid, Ordering.int_eq}
use Rattle.ert_defs.specs.declared.settings.{Reading.Reading, Settings.Settings}
use Rattle.ert_ops.specs.declared.op.Op.{Op}
use Rattle.ert_ops.specs.declared.op.Op.TheVariants.{Tick, Check, Finalize, Notify, Time, System, Offset, Info, Convert, Start, SendAfter, Cancel, CancelQuiet, Read, CancelAsync, ReadAsync, Serve, Advance, Deliver, Turn, Receive, Exit, Alive, Monitor, Demonitor}
use Rattle.ert_scenario.specs.declared.limits.TheConstants.{MOST_SCHEDULERS, MOST_PROCESSES, MOST_SLOTS, MOST_SLOTS_IN_ALL, MOST_CALLERS}

-- whether a reading is valid
unfoldable pub is_reading : Reading → Bool
is_reading r = (int_le (pos 0) r.mono && int_lt r.mono (pos 4611686018427387904))
    && (int_lt (negsuc 2305843009213693951) r.sys && int_lt r.sys (pos 2305843009213693952))

-- whether a start time is allowed
unfoldable pub is_start : ℤ → Bool
is_start start = int_eq (int_rem_euclid start (pos 1000000)) (pos 0)
    && (int_le (negsuc 288230376151711743) start && int_le start (pos 288230376151711744))

-- whether the counts are within the limits of scenarios, which are narrower than those of a service
unfoldable pub has_counts : Settings → Bool
has_counts g = (nat_le 1 g.schedulers && nat_le g.schedulers MOST_SCHEDULERS)
    && ((nat_le 1 g.processes && nat_le g.processes MOST_PROCESSES)
    && ((nat_le 1 g.slots && nat_le g.slots MOST_SLOTS)
    && (nat_le (g.schedulers * g.slots) MOST_SLOTS_IN_ALL
    && (nat_le 1 g.looks
    && (nat_le 1 g.callers && nat_le g.callers MOST_CALLERS)))))

-- whether a scenario can have the settings
unfoldable pub is_checked : Settings → Bool
is_checked g = is_start g.start && (is_reading g.first && has_counts g)

-- whether it is a label
abbrev pub is_label : ℕ → Bool
is_label label = nat_le label 999999

-- whether it is a scheduler of the service
abbrev pub is_sched : Settings → ℕ → Bool
is_sched g sched = nat_lt sched g.schedulers

-- whether it is a process of the service
abbrev pub is_process : Settings → ℕ → Bool
is_process g process = nat_lt process g.processes

-- whether a start has a label, a scheduler and a process
abbrev pub is_started : Settings → ℕ → ℕ → ℕ → Bool
is_started g label wheel dest = is_label label && (is_sched g wheel && is_process g dest)

-- whether the arguments of an op are in range, where a service was opened with the settings
unfoldable pub is_op : Settings → Op → Bool
is_op g (Tick mono sys) = is_reading (record { mono = mono; sys = sys })
is_op g (Check mono sys) = is_reading (record { mono = mono; sys = sys })
is_op g (Finalize mono sys) = is_reading (record { mono = mono; sys = sys })
is_op g (Notify process) = is_process g process
is_op g Time = true
is_op g System = true
is_op g Offset = true
is_op g Info = true
is_op g (Convert time from to) = true
is_op g (Start label wheel when dest msg) = is_started g label wheel dest
is_op g (SendAfter label wheel when dest msg) = is_started g label wheel dest
is_op g (Cancel label) = is_label label
is_op g (CancelQuiet label) = is_label label
is_op g (Read label) = is_label label
is_op g (CancelAsync label process info) = is_label label && is_process g process
is_op g (ReadAsync label process info) = is_label label && is_process g process
is_op g (Serve sched) = is_sched g sched
is_op g (Advance sched) = is_sched g sched
is_op g (Deliver sched) = is_sched g sched
is_op g (Turn sched) = is_sched g sched
is_op g (Receive process) = is_process g process
is_op g (Exit process) = is_process g process
is_op g (Alive process) = is_process g process
is_op g (Monitor process) = is_process g process
is_op g (Demonitor process monitor) = is_process g process && nat_le monitor 4294967295
