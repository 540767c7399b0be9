-- The ops that the generator makes, one after another.

use Rattle.std.specs.Prelude.{ℕ, zero, suc, ◌+◌, ◌*◌, ◌≤◌, ℤ, pos, negsuc, ◌+ℤ◌, ◌-ℤ◌, ◌≤ℤ◌, List, [], ◌∷◌, nat_eq, nat_lt, if◌then◌else◌}
use Rattle.ert_defs.specs.declared.timer.When.TheVariants.{After}
use Rattle.ert_ops.specs.declared.op.Op.{Op, TheVariants.{Tick, Start, Cancel, Read, Turn, Receive}}
use Rattle.ert_program.specs.{Draws.{after, draw}, declared.generator.Generator.Generator}

-- an op, and what the op after it is made from
pub record Made : Type 0 where
  pub op : Op
  pub later : Generator

-- how far a tick goes on, in nanoseconds: 1 to 50 milliseconds
abbrev pub step_of : ℕ → ℤ
step_of x = pos (1000000 * (1 + draw 50 x))

-- how far OS system time then falls: once in 64 ticks by a second
abbrev pub fall_of : ℕ → ℤ
fall_of x = if nat_eq (draw 64 x) 0 then pos 1000000000 else pos 0

-- a tick
abbrev pub made_tick : Generator → Made
made_tick m = record {
  op = Tick (m.mono +ℤ step_of m.x) ((m.sys +ℤ step_of m.x) -ℤ fall_of (after m.x));
  later = record m { x = after (after m.x); mono = m.mono +ℤ step_of m.x; sys = (m.sys +ℤ step_of m.x) -ℤ fall_of (after m.x) };
}

-- a start of a timer, with the next label
abbrev pub made_start : Generator → Made
made_start m = record {
  op = Start m.next (draw 4 m.x) (After (pos (draw 200 (after m.x)))) (draw 8 (after (after m.x))) m.next;
  later = record m { x = after (after (after m.x)); next = m.next + 1 };
}

-- a cancel of a timer, or of the label that no start has yet
abbrev pub made_cancel : Generator → Made
made_cancel m = record { op = Cancel (draw (m.next + 1) m.x); later = record m { x = after m.x } }

-- a reading of what is left, as a cancel
abbrev pub made_read : Generator → Made
made_read m = record { op = Read (draw (m.next + 1) m.x); later = record m { x = after m.x } }

-- a turn of a scheduler
abbrev pub made_turn : Generator → Made
made_turn m = record { op = Turn (draw 4 m.x); later = record m { x = after m.x } }

-- a process looks into its mailbox
abbrev pub made_receive : Generator → Made
made_receive m = record { op = Receive (draw 8 m.x); later = record m { x = after m.x } }

-- the op for what the draw before it gave
abbrev pub op_for : ℕ → Generator → Made
op_for d m =
    if nat_lt d 2 then made_tick m
    else (if nat_lt d 4 then made_start m
    else (if nat_eq d 4 then made_cancel m
    else (if nat_eq d 5 then made_read m
    else (if nat_eq d 6 then made_turn m
    else made_receive m))))

-- the next op: one draw of eight chooses it
unfoldable pub next_op : Generator → Made
next_op m = op_for (draw 8 m.x) (record m { x = after m.x })

-- the next ops
abbrev pub next_ops : ℕ → Generator → List Op
next_ops zero m = []
next_ops (suc n) m = (next_op m).op ∷ next_ops n (next_op m).later

-- before the first op
abbrev pub first : ℕ → Generator
first seed = record { x = seed; mono = pos 0; sys = pos 0; next = 0 }

-- the numbers of a generator are those of at most 100,000 ops
pub record IsBounded (m : Generator) : Type 0 where
  pub mono_low : pos 0 ≤ℤ m.mono
  pub mono_high : m.mono ≤ℤ pos 5000000000000
  pub sys_low : negsuc 99999999999999 ≤ℤ m.sys
  pub sys_high : m.sys ≤ℤ pos 5000000000000
  pub labels : m.next ≤ 100000
