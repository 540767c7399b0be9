-- The plain service: the model as a function of settings and ops. It is the same state, moved by the same
-- events, in which each start has a slot of its own, whose number is its label. So its slots may be out of
-- range, and its entries need not be legal; but what it prints is what every service prints.

use Rattle.std.specs.Prelude.{ℕ, List, [], ◌∷◌, ◌++◌}
use Rattle.ert_defs.specs.{States.{State, opening, run}, declared.mail.RequestKind.TheVariants.{Cancel as ToCancel, Read as ToRead}, declared.settings.Settings.Settings, declared.timer.Kind.TheVariants.{Wrapped, Bare}}
use Rattle.ert_defs.specs.{declared.timer.TimerRef.TimerRef}
use Rattle.ert_ops.specs.{Calls.{reading_of, start_for_op, request_for_op}, Labels.{Labels, ref_of}, Lines.line_of, Texts.end_line, Pieces.Piece, PlainClock.{tick_piece, check_piece, finalize_piece, time_piece, system_piece, offset_piece}}
use Rattle.ert_ops.specs.{PlainClock.{info_piece, convert_piece}, PlainMail.{receive_piece, alive_piece, exit_piece, monitor_piece, may_watch, demonitor_piece, notify_piece}, PlainTimers.{start_now, cancel_now, read_now}}
use Rattle.ert_ops.specs.{PlainTurns.{ask_piece, serve_op, advance_op, deliver_op, turn_op}, Scripts.labels_after, declared.op.Op.Op}
use Rattle.ert_ops.specs.declared.op.Op.TheVariants as ops
use Rattle.ert_ops.specs.declared.reply.Reply.TheVariants as replies

-- what an op does to the plain service
abbrev pub op_piece : Settings → State → Labels → Op → Piece
op_piece g s ls (ops.Tick mono sys) = tick_piece g s (reading_of mono sys)
op_piece g s ls (ops.Check mono sys) = check_piece g s (reading_of mono sys)
op_piece g s ls (ops.Finalize mono sys) = finalize_piece g s (reading_of mono sys) s.clock.state
op_piece g s ls (ops.Notify p) = notify_piece s p
op_piece g s ls ops.Time = time_piece s
op_piece g s ls ops.System = system_piece s
op_piece g s ls ops.Offset = offset_piece s
op_piece g s ls ops.Info = info_piece g s
op_piece g s ls (ops.Convert time from to) = convert_piece time from to
op_piece g s ls (ops.Start l w when p msg) = start_now g s l w (start_for_op when p msg Wrapped)
op_piece g s ls (ops.SendAfter l w when p msg) = start_now g s l w (start_for_op when p msg Bare)
op_piece g s ls (ops.Cancel l) = cancel_now g s (ref_of ls l) replies.Cancel
op_piece g s ls (ops.CancelQuiet l) = cancel_now g s (ref_of ls l) (λ left. replies.CancelQuiet)
op_piece g s ls (ops.Read l) = read_now g s (ref_of ls l)
op_piece g s ls (ops.CancelAsync l p info) = ask_piece g (request_for_op ToCancel ls l p info) replies.CancelAsync
op_piece g s ls (ops.ReadAsync l p info) = ask_piece g (request_for_op ToRead ls l p info) replies.ReadAsync
op_piece g s ls (ops.Serve w) = serve_op g s w
op_piece g s ls (ops.Advance w) = advance_op g s w
op_piece g s ls (ops.Deliver w) = deliver_op s w
op_piece g s ls (ops.Turn w) = turn_op g s w
op_piece g s ls (ops.Receive p) = receive_piece s p (s.exited p)
op_piece g s ls (ops.Exit p) = exit_piece g s p (s.exited p)
op_piece g s ls (ops.Alive p) = alive_piece s p
op_piece g s ls (ops.Monitor p) = monitor_piece s p (may_watch (s.mails p))
op_piece g s ls (ops.Demonitor p n) = demonitor_piece s p n

-- the name of a timer in the plain service: its slot, which is its label
abbrev pub slot_of : TimerRef → ℕ
slot_of r = r.slot

-- the lines of ops from a state and labels on, and the end line
abbrev pub plain_lines : Settings → State → Labels → List Op → List ℕ
plain_lines g s ls [] = end_line s.clock.now
plain_lines g s ls (op ∷ ops) = line_of slot_of (op_piece g s ls op).reply
    ++ plain_lines g (run g s (op_piece g s ls op).entries) (labels_after ls op (op_piece g s ls op).reply) ops

-- what a list of ops prints
abbrev pub plain_text : Settings → List Op → List ℕ
plain_text g ops = plain_lines g (opening g) [] ops
