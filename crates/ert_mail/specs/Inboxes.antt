-- The inbox of a scheduler, as callers see it, and when it stands for a history.

use Rattle.std.specs.Prelude.{◌≡◌, ℕ, ◌<◌, true, List, Option, None}
use Rattle.ert_defs.specs.{Mails.SchedState, States.state, declared.entry.Actor.TheVariants.{Inbox, Sched, Caller}, declared.entry.Entry.Entry, declared.mail.Request.Request, declared.settings.Settings.Settings}
use Rattle.ert_table.specs.{Held.is_held, declared.view.View.View}

-- the inbox of a scheduler: the requests that wait for it
pub record Waiting : Type 0 where
  pub wheel : ℕ
  pub requests : List Request

-- an inbox stands for a history: its scheduler is in range, and its requests are those that wait for it
pub record InboxStands (g : Settings) (h : List Entry) (q : Waiting) : Type 0 where
  pub in_range : q.wheel < g.schedulers
  pub requests : q.requests ≡ (state g h).inboxes q.wheel

-- a pass holds the inbox of a scheduler, and a caller in range
pub record IsAskers (g : Settings) (v : View) (by w : ℕ) : Type 0 where
  pub caller : is_held v.actors (Caller by) ≡ true
  pub below : by < g.callers
  pub inbox : is_held v.actors (Inbox w) ≡ true

-- a pass holds the inbox of a scheduler, and the scheduler itself
pub record HoldsInboxAndSched (g : Settings) (v : View) (w : ℕ) : Type 0 where
  pub sched : is_held v.actors (Sched w) ≡ true
  pub inbox : is_held v.actors (Inbox w) ≡ true

-- what a scheduler has after it took this into its hand
abbrev pub sched_after_pick : Option Request → SchedState → SchedState
sched_after_pick got s = record { hand = got; result = None; expired = s.expired }
