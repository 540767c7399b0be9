-- The plain service: asking schedulers, and what they do.

use Rattle.std.specs.Prelude.{ℕ, suc, zero, ◌+◌, Bool, true, false, cond, ◌&&◌, nat_eq, nat_le, List, [], ◌∷◌, ◌++◌, length, map, filter, Option, Some, None}
use Rattle.ert_effects.specs.{Chains.{puts, drops}, MailCalls.handed_entries, RequestCalls.inbox_for, TimerCalls.{read_entries, cancel_entries}, declared.answers.Handed.Handed, declared.answers.Handed.TheVariants.{Put, Dropped}}
use Rattle.ert_defs.specs.{Entries.{look_entry, expire_entry, advanced_entry, ask_entry, pick_entry, answer_entry}, Laws.is_armed, Mails.first_of, Milliseconds.{down, natural}, States.{State, run}, Timers.Row}
use Rattle.ert_defs.specs.{declared.entry.Actor.TheVariants.Sched, declared.entry.Entry.Entry, declared.mail.Request.Request, declared.mail.RequestKind.RequestKind, declared.mail.RequestKind.TheVariants.{Cancel as ToCancel, Read as ToRead}}
use Rattle.ert_defs.specs.{declared.settings.Settings.Settings, declared.timer.Status.Status, declared.timer.TimerRef.TimerRef}
use Rattle.ert_ops.specs.{Pieces.Piece, PlainTimers.{is_bound, left_now, left_if}, declared.reply.Reply.Reply, declared.reply.Reply.TheVariants.{Serve, Advance, Deliver, Turn}}

-- a request is put into the inbox of its scheduler
abbrev pub ask_piece : Settings → Request → Reply → Piece
ask_piece g q reply = record {
  entries = ask_entry 0 (inbox_for g q) q ∷ [];
  reply = reply;
}

-- what a scheduler does for a request in its hand: it reads or cancels the timer, and answers
abbrev pub request_entries : RequestKind → ℕ → TimerRef → Bool → Option ℕ → List Entry
request_entries ToCancel w r bound left = cancel_entries bound (Sched w) r left left
request_entries ToRead w r bound left = read_entries bound (Sched w) r left

-- a scheduler looks at the time, does what a request asks for, and answers it
abbrev pub answer_entries : Settings → State → ℕ → Request → List Entry
answer_entries g s w q =
    let left = left_now g s q.timer in
    look_entry (Sched w) s.clock.now
    ∷ request_entries q.kind w q.timer (is_bound q.timer) left
    ++ answer_entry w q.reply_to (left_if (is_bound q.timer) left) ∷ []

-- what a scheduler served: the entries, and how many requests
pub record Served : Type 0 where
  pub entries : List Entry
  pub count : ℕ

-- a request that was taken from the inbox, or none
abbrev pub pick_piece : Settings → State → ℕ → Option Request → Served
pick_piece g s w None = record { entries = pick_entry w None ∷ []; count = 0 }
pick_piece g s w (Some q) =
    record { entries = pick_entry w (Some q) ∷ answer_entries g s w q; count = 1 }

-- the request in the hand is answered, and else the first of the inbox
abbrev pub serve_piece : Settings → State → ℕ → Option Request → Served
serve_piece g s w (Some q) = record { entries = answer_entries g s w q; count = 1 }
serve_piece g s w None = pick_piece g s w (first_of (s.inboxes w))

-- a scheduler serves one request, if it has any
abbrev pub serve_one : Settings → State → ℕ → Served
serve_one g s w = serve_piece g s w (s.scheds w).hand

-- whether a request was served
abbrev pub has_served : Served → Bool
has_served a = nat_eq a.count 1

-- one serving, and then others
abbrev pub and_then : Served → Served → Served
and_then a b = record { entries = a.entries ++ b.entries; count = a.count + b.count }

-- requests are served until none waits, and so many at most
abbrev pub serve_many : Settings → State → ℕ → ℕ → Served
serve_many g s w zero = record { entries = []; count = 0 }
serve_many g s w (suc n) = elim (has_served (serve_one g s w)) [
  | true ↦ and_then (serve_one g s w) (serve_many g (run g s (serve_one g s w).entries) w n)
  | false ↦ serve_one g s w
]

-- whether a row is of an armed timer that is due at so many milliseconds
abbrev pub is_due_at : (TimerRef → Option Status) → ℕ → Row → Bool
is_due_at status to r = nat_le r.deadline to && is_armed (status r.timer)

-- a row put into rows that stand by deadline, before those of its own
abbrev pub put_by_deadline : Row → List Row → List Row
put_by_deadline r [] = r ∷ []
put_by_deadline r (x ∷ xs) = cond (nat_le r.deadline x.deadline) (r ∷ x ∷ xs) (x ∷ put_by_deadline r xs)

-- rows by deadline, and those of one deadline as they stood
abbrev pub by_deadline : List Row → List Row
by_deadline [] = []
by_deadline (r ∷ rows) = put_by_deadline r (by_deadline rows)

-- the due timers of a wheel, in the order in which they expire
abbrev pub due_rows : (TimerRef → Option Status) → ℕ → List Row → List Row
due_rows status to rows = by_deadline (filter (is_due_at status to) rows)

-- what an advance does: the entries, the milliseconds to which the wheel comes, and how many timers expire
pub record Advancing : Type 0 where
  pub entries : List Entry
  pub to : ℕ
  pub expired : ℕ

-- these timers of a wheel expire, one after the other
abbrev pub expiries : ℕ → List Row → List Entry
expiries w rows = map (λ (r : Row). expire_entry w r.timer) rows

-- a scheduler advances its wheel to the time as it is
abbrev pub advance_now : Settings → State → ℕ → Advancing
advance_now g s w =
    let to = natural (down g s.clock.now) in
    let due = due_rows s.status to (s.rows w) in
    record {
      entries = look_entry (Sched w) s.clock.now ∷ expiries w due ++ advanced_entry w to ∷ [];
      to = to;
      expired = length due;
    }

-- what becomes of an expired timer, whose destination has exited or not
abbrev pub how_by : Bool → Handed
how_by true = Dropped
how_by false = Put

-- what becomes of expired timers, where these processes have exited
abbrev pub hows_of : (ℕ → Bool) → List Row → List Handed
hows_of exited [] = []
hows_of exited (r ∷ rows) = how_by (exited r.dest) ∷ hows_of exited rows

-- the messages of these timers are handed over one after the other
abbrev pub hand_entries : (ℕ → Bool) → ℕ → List Row → List Entry
hand_entries exited w [] = []
hand_entries exited w (r ∷ rows) = handed_entries w r (how_by (exited r.dest)) ++ hand_entries exited w rows

-- a scheduler hands over all its expired timers
abbrev pub handing : State → ℕ → List Entry
handing s w = hand_entries s.exited w (s.scheds w).expired

-- one request is served, if there is any; the reply tells whether
abbrev pub serve_op : Settings → State → ℕ → Piece
serve_op g s w = record { entries = (serve_one g s w).entries; reply = Serve (has_served (serve_one g s w)) }

-- a wheel is advanced; the reply tells to which millisecond, and how many timers expired
abbrev pub advance_op : Settings → State → ℕ → Piece
advance_op g s w = let a = advance_now g s w in record { entries = a.entries; reply = Advance a.to a.expired }

-- all expired timers are handed over; the reply tells how many messages were put and how many dropped
abbrev pub deliver_op : State → ℕ → Piece
deliver_op s w = record {
  entries = handing s w;
  reply = Deliver (puts (hows_of s.exited (s.scheds w).expired)) (drops (hows_of s.exited (s.scheds w).expired));
}

-- a turn serves at most 64 requests, then advances, then delivers
abbrev pub turn_op : Settings → State → ℕ → Piece
turn_op g s w =
    let served = serve_many g s w 64 in
    let then = run g s served.entries in
    let advanced = advance_now g then w in
    let last = run g then advanced.entries in
    record {
      entries = served.entries ++ (advanced.entries ++ handing last w);
      reply = Turn (record {
        served = served.count;
        to = advanced.to;
        expired = advanced.expired;
        put = puts (hows_of last.exited (last.scheds w).expired);
        dropped = drops (hows_of last.exited (last.scheds w).expired);
      });
    }
