-- The plain service: starting, cancelling and reading timers.

use Rattle.std.specs.Prelude.{ℕ, Bool, true, false, cond, nat_le, List, [], ◌∷◌, Option, Some, None}
use Rattle.ert_effects.specs.TimerCalls.{read_entries, cancel_entries}
use Rattle.ert_defs.specs.{Entries.{look_entry, arm_entry, mark_entry, orphan_entry}, Legal.left_by, Milliseconds.deadline_of, States.State, Timers.{Row, row_of, is_taken, timer_at}, declared.entry.Actor.TheVariants.Caller}
use Rattle.ert_defs.specs.{declared.entry.Entry.Entry, declared.settings.Settings.Settings, declared.timer.Kind.Kind, declared.timer.Kind.TheVariants.{Wrapped, Bare}, declared.timer.Start.Start, declared.timer.Status.Status}
use Rattle.ert_defs.specs.{declared.timer.TimerRef.TimerRef}
use Rattle.ert_laws.specs.Counts.{count_of}
use Rattle.ert_ops.specs.{Pieces.Piece, declared.reply.Reply.Reply, declared.reply.Reply.TheVariants.{StartOk, StartBadArg, StartFull, SendAfterOk, SendAfterBadArg, SendAfterFull, Read}}

-- how many take a slot: those that are armed, and those that have expired and aren't handed over
abbrev pub taken_slots : (TimerRef → Option Status) → List Row → ℕ
taken_slots status rows = count_of is_taken status rows

-- the reply to a start of each kind, whose timer was started
abbrev pub start_reply : Kind → TimerRef → Reply
start_reply Wrapped timer = StartOk timer
start_reply Bare timer = SendAfterOk timer

-- the reply to a start of each kind that is refused for its time
abbrev pub bad_arg : Kind → Reply
bad_arg Wrapped = StartBadArg
bad_arg Bare = SendAfterBadArg

-- the reply to a start of each kind that finds no free slot
abbrev pub full : Kind → Reply
full Wrapped = StartFull
full Bare = SendAfterFull

-- the time is read
abbrev pub looks : State → Entry
looks s = look_entry (Caller 0) s.clock.now

-- a timer is armed for a process, which had exited or not: then the timer is cancelled at once
abbrev pub arm_entries : TimerRef → Start → Bool → List Entry
arm_entries timer start was = arm_entry 0 timer start
    ∷ mark_entry (Caller 0) start.dest false was
    ∷ cond was (orphan_entry 0 timer.wheel timer ∷ []) []

-- a start, by its deadline: the timer has its label for its slot, and the wheel is full where as many rows
-- take a slot as there are slots
abbrev pub start_piece : Settings → State → ℕ → ℕ → Start → Option ℕ → Piece
start_piece g s label w start None = record { entries = looks s ∷ []; reply = bad_arg start.kind }
start_piece g s label w start (Some deadline) = cond (nat_le g.slots (taken_slots s.status (s.rows w)))
    (record { entries = looks s ∷ []; reply = full start.kind })
    (record {
      entries = looks s ∷ arm_entries (timer_at w label 1) start (s.exited start.dest);
      reply = start_reply start.kind (timer_at w label 1);
    })

-- a start by the time as it is
abbrev pub start_now : Settings → State → ℕ → ℕ → Start → Piece
start_now g s label w start = start_piece g s label w start (deadline_of g start s.clock.now)

-- whether a reference is that of a timer: every other one has generation 0
abbrev pub is_bound : TimerRef → Bool
is_bound r = nat_le 1 r.generation

-- the milliseconds left of a timer by the time as it is, where it is armed
abbrev pub left_now : Settings → State → TimerRef → Option ℕ
left_now g s r = left_by g s.clock.now (s.status r) (row_of (s.rows r.wheel) r)

-- what a cancel or a read answers
abbrev pub left_if : Bool → Option ℕ → Option ℕ
left_if true left = left
left_if false left = None

-- a cancel by the time as it is, and the reply that tells what was left
abbrev pub cancel_now : Settings → State → TimerRef → (Option ℕ → Reply) → Piece
cancel_now g s r reply = record {
  entries = looks s ∷ cancel_entries (is_bound r) (Caller 0) r (left_now g s r) (left_now g s r);
  reply = reply (left_if (is_bound r) (left_now g s r));
}

-- a read by the time as it is
abbrev pub read_now : Settings → State → TimerRef → Piece
read_now g s r = record {
  entries = looks s ∷ read_entries (is_bound r) (Caller 0) r (left_now g s r);
  reply = Read (left_if (is_bound r) (left_now g s r));
}
