-- Which actors a share of a desk has.

use Rattle.std.specs.Prelude.{ℕ, ◌<◌, ◌≤◌, Bool, ◌&&◌, ◌||◌, nat_eq, nat_le, nat_lt}
use Rattle.ert_defs.specs.declared.{entry.Actor.Actor, entry.Actor.TheVariants.{Keeper, Wheel, Inbox, Sched, MailOf, Caller}, settings.Settings.Settings}
use Rattle.ert_table.specs.declared.share.{Share.Share, Span.Span}

-- the numbers from one on, below another
abbrev pub span : ℕ → ℕ → Span
span from to = record { from = from; to = to }

-- a number is of a span
abbrev pub IsWithin : Span → ℕ → Type 0
IsWithin r n = (r.from ≤ n) × (n < r.to)

-- whether a number is of a span, of so many numbers in all. A span that has the last of them has each beyond, too: so the whole
-- share has every actor, and not just those in range
abbrev pub is_of_span : Span → ℕ → ℕ → Bool
is_of_span r count n = nat_le r.from n && (nat_lt n r.to || nat_le count r.to)

-- whether an actor is of a share; the clock goes with caller 0
abbrev pub is_of_share : Settings → Share → Actor → Bool
is_of_share g s Keeper = nat_eq s.callers.from 0
is_of_share g s (Wheel w) = is_of_span s.scheds g.schedulers w
is_of_share g s (Inbox w) = is_of_span s.scheds g.schedulers w
is_of_share g s (Sched w) = is_of_span s.scheds g.schedulers w
is_of_share g s (MailOf p) = is_of_span s.processes g.processes p
is_of_share g s (Caller n) = is_of_span s.callers g.callers n

-- the share that has every actor
abbrev pub whole_share : Settings → Share
whole_share g = record { scheds = span 0 g.schedulers; processes = span 0 g.processes; callers = span 0 g.callers }
