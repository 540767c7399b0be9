-- The plain service: mailboxes, exits and monitors of the time offset.

use Rattle.std.specs.Prelude.{ℕ, suc, zero, Bool, true, false, not, ◌&&◌, nat_eq, nat_lt, nat_le, List, [], ◌∷◌, ◌++◌, length, map, filter, Option, Some, None}
use Rattle.ert_defs.specs.{Entries.{off_entry, orphan_entry, mark_entry, take_entry, watch_entry, unwatch_entry, tell_entry}, Laws.is_armed, Legal.stands_in, Mails.{MailState, first_of, changes_of}, States.{State, run}, Timers.Row}
use Rattle.ert_defs.specs.{declared.entry.Actor.TheVariants.Caller, declared.entry.Entry.Entry, declared.mail.Mail.Mail, declared.settings.Settings.Settings, declared.timer.Status.Status, declared.timer.TimerRef.TimerRef}
use Rattle.ert_ops.specs.{Pieces.Piece, declared.reply.Reply.Reply, declared.reply.Reply.TheVariants.{Received, ReceivedEmpty, ReceivedExited, Exit, Alive, Monitor as Monitored, MonitorFull, Demonitor, Notify}}

-- the reply to a receive, by the first message of the mailbox
abbrev pub receive_reply : Option Mail → Reply
receive_reply None = ReceivedEmpty
receive_reply (Some mail) = Received mail

-- a receive, of a process that has exited or not
abbrev pub receive_piece : State → ℕ → Bool → Piece
receive_piece s p true = record { entries = mark_entry (Caller 0) p false true ∷ []; reply = ReceivedExited }
receive_piece s p false = record {
  entries = mark_entry (Caller 0) p false false ∷ take_entry 0 p (first_of (s.mails p).queue) ∷ [];
  reply = receive_reply (first_of (s.mails p).queue);
}

-- it is seen whether a process is alive
abbrev pub alive_piece : State → ℕ → Piece
alive_piece s p = record {
  entries = mark_entry (Caller 0) p false (s.exited p) ∷ [];
  reply = Alive (not (s.exited p));
}

-- whether a row is of an armed timer for a process
abbrev pub is_swept : (TimerRef → Option Status) → ℕ → Row → Bool
is_swept status p r = nat_eq r.dest p && is_armed (status r.timer)

-- the timers of a wheel for a process are cancelled
abbrev pub orphans : State → ℕ → ℕ → List Entry
orphans s p w = map (λ (r : Row). orphan_entry 0 w r.timer) (filter (is_swept s.status p) (s.rows w))

-- the same for so many wheels from one on
abbrev pub sweeps : Settings → State → ℕ → ℕ → ℕ → List Entry
sweeps g s p w zero = []
sweeps g s p w (suc n) = orphans s p w ++ sweeps g (run g s (orphans s p w)) p (suc w) n

-- an exit, of a process that has exited before or not
abbrev pub exit_piece : Settings → State → ℕ → Bool → Piece
exit_piece g s p true = record { entries = mark_entry (Caller 0) p true true ∷ []; reply = Exit false }
exit_piece g s p false =
    let marks = mark_entry (Caller 0) p true false ∷ [] in
    record { entries = marks ++ sweeps g (run g s marks) p 0 g.schedulers; reply = Exit true }

-- whether a process can have one more monitor of the time offset
abbrev pub may_watch : MailState → Bool
may_watch m = nat_lt (length m.monitors) 64 && nat_le m.next 4294967295

-- a monitor is made, where the process can have one more; else the offset is looked at
abbrev pub monitor_piece : State → ℕ → Bool → Piece
monitor_piece s p true = record {
  entries = watch_entry 0 p (s.mails p).next s.clock.offset ∷ [];
  reply = Monitored (s.mails p).next;
}
monitor_piece s p false = record {
  entries = off_entry (Caller 0) s.clock.offset s.clock.state ∷ [];
  reply = MonitorFull;
}

-- a monitor is removed, where it stands; the reply tells whether it stood
abbrev pub demonitor_piece : State → ℕ → ℕ → Piece
demonitor_piece s p n =
    let stood = stands_in n (s.mails p).monitors in
    record { entries = unwatch_entry 0 p n stood ∷ []; reply = Demonitor stood }

-- the monitors of a process are told the offset; the reply is how many messages are put
abbrev pub notify_piece : State → ℕ → Piece
notify_piece s p = record {
  entries = tell_entry 0 p s.clock.offset ∷ [];
  reply = Notify (length (changes_of s.clock.offset (s.mails p).monitors));
}
