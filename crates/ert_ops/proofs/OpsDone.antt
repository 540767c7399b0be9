-- Each op but a start, with each of its replies: the service answers and does as the plain one.

use Rattle.std.proofs.Common.{ℕ, ℤ, Bool, List, Some, None, refl}
use Rattle.ert_effects.specs.Ways.{alone}
use Rattle.ert_defs.specs.{Legal.LegalFrom, States.{State, state}, declared.entry.Act.TheVariants.{Plain, Force}, declared.entry.Entry.Entry, declared.mail.RequestKind.TheVariants.{Cancel as ToCancel, Read as ToRead}}
use Rattle.ert_defs.specs.{declared.settings.Settings.Settings}
use Rattle.ert_ops.proofs.{Bound.IsName, Cancels.{cancel_done, read_done}, Chains.{serve_done, advance_done, deliver_done, turn_done, exit_done}, Clocks.{IsDone, moves_done, refuses_done}, Mailing.{notify_done, exited_done, receive_done}}
use Rattle.ert_ops.proofs.{Mailing.{alive_done, monitor_done, no_monitor_done, demonitor_done, ask_done}, Meets.Meets, Readings.{finalizes_done, final_refused, time_done, offset_done, system_done, info_done}}
use Rattle.ert_ops.specs.{Calls.{Calls, reading_of, request_for_op}, Labels.{Labels, ref_of}, PlainClock.{tick_piece, check_piece, finalize_piece, time_piece, system_piece, offset_piece, info_piece}, PlainMail.{receive_piece, alive_piece}}
use Rattle.ert_ops.specs.{PlainMail.{exit_piece, may_watch, monitor_piece, demonitor_piece, notify_piece}, PlainTimers.{cancel_now, read_now}, PlainTurns.{ask_piece, serve_op, advance_op, deliver_op, turn_op}, declared.reply.Reply.Reply}
use Rattle.ert_ops.specs.{declared.reply.Reply.TheVariants.{Tick, TickWide, Check, CheckWide, Finalize, FinalizeWide, Time, System, Offset, Info, Cancel, CancelQuiet, Read, CancelAsync, ReadAsync, Serve, Advance, Deliver, Turn, Received}}
use Rattle.ert_ops.specs.{declared.reply.Reply.TheVariants.{ReceivedEmpty, ReceivedExited, Exit, Alive, Monitor, MonitorFull, Demonitor, Notify}}
use Rattle.ert_ops.specs.declared.op.Op.TheVariants as ops

pub tick_op : (g : Settings) (n : ℕ) (ls : Labels) (h m : List Entry) (c : State) (mono sys : ℤ) (reply : Reply) → Meets g n ls (state g h) c
    → LegalFrom g (state g h) m → Calls g (alone g) 0 ls (ops.Tick mono sys) reply h m
    → IsDone g n ls (state g h) c reply m (tick_piece g c (reading_of mono sys))
tick_op g n ls h m c mono sys (Tick now shift) meets legal does =
    moves_done g n ls (state g h) c (reading_of mono sys) Plain Tick TickWide (record { now = now; shift = shift }) m meets legal (λ _ _. refl) does
tick_op g n ls h m c mono sys (TickWide value) meets legal does =
    refuses_done g n ls (state g h) c (reading_of mono sys) Plain Tick TickWide value m meets refl does
tick_op g n ls h m c mono sys _ meets legal does = absurd does

pub check_op : (g : Settings) (n : ℕ) (ls : Labels) (h m : List Entry) (c : State) (mono sys : ℤ) (reply : Reply) → Meets g n ls (state g h) c
    → LegalFrom g (state g h) m → Calls g (alone g) 0 ls (ops.Check mono sys) reply h m
    → IsDone g n ls (state g h) c reply m (check_piece g c (reading_of mono sys))
check_op g n ls h m c mono sys (Check now shift) meets legal does =
    moves_done g n ls (state g h) c (reading_of mono sys) Force Check CheckWide (record { now = now; shift = shift }) m meets legal (λ _ _. refl) does
check_op g n ls h m c mono sys (CheckWide value) meets legal does =
    refuses_done g n ls (state g h) c (reading_of mono sys) Force Check CheckWide value m meets refl does
check_op g n ls h m c mono sys _ meets legal does = absurd does

pub finalize_op : (g : Settings) (n : ℕ) (ls : Labels) (h m : List Entry) (c : State) (mono sys : ℤ) (reply : Reply) → Meets g n ls (state g h) c
    → LegalFrom g (state g h) m → Calls g (alone g) 0 ls (ops.Finalize mono sys) reply h m
    → IsDone g n ls (state g h) c reply m (finalize_piece g c (reading_of mono sys) c.clock.state)
finalize_op g n ls h m c mono sys (Finalize old now shift) meets legal does =
    finalizes_done g n ls (state g h) c (reading_of mono sys) old (record { now = now; shift = shift }) m meets legal does.0 does.1
finalize_op g n ls h m c mono sys (FinalizeWide value) meets legal does = final_refused g n ls (state g h) c (reading_of mono sys) value m meets does
finalize_op g n ls h m c mono sys _ meets legal does = absurd does

pub notify_op : (g : Settings) (n : ℕ) (ls : Labels) (h m : List Entry) (c : State) (p : ℕ) (reply : Reply) → Meets g n ls (state g h) c
    → LegalFrom g (state g h) m → Calls g (alone g) 0 ls (ops.Notify p) reply h m → IsDone g n ls (state g h) c reply m (notify_piece c p)
notify_op g n ls h m c p (Notify put) meets legal does = notify_done g n ls (state g h) c p put m meets legal does
notify_op g n ls h m c p _ meets legal does = absurd does

pub time_op : (g : Settings) (n : ℕ) (ls : Labels) (h m : List Entry) (c : State) (reply : Reply) → Meets g n ls (state g h) c
    → LegalFrom g (state g h) m → Calls g (alone g) 0 ls ops.Time reply h m → IsDone g n ls (state g h) c reply m (time_piece c)
time_op g n ls h m c (Time now) meets legal does = time_done g n ls (state g h) c now m meets legal does
time_op g n ls h m c _ meets legal does = absurd does

pub system_op : (g : Settings) (n : ℕ) (ls : Labels) (h m : List Entry) (c : State) (reply : Reply) → Meets g n ls (state g h) c
    → LegalFrom g (state g h) m → Calls g (alone g) 0 ls ops.System reply h m → IsDone g n ls (state g h) c reply m (system_piece c)
system_op g n ls h m c (System time) meets legal does = system_done g n ls (state g h) c time m meets legal does
system_op g n ls h m c _ meets legal does = absurd does

pub offset_op : (g : Settings) (n : ℕ) (ls : Labels) (h m : List Entry) (c : State) (reply : Reply) → Meets g n ls (state g h) c
    → LegalFrom g (state g h) m → Calls g (alone g) 0 ls ops.Offset reply h m → IsDone g n ls (state g h) c reply m (offset_piece c)
offset_op g n ls h m c (Offset offset of_offset) meets legal does =
    offset_done g n ls (state g h) c offset of_offset m Offset meets legal does refl
offset_op g n ls h m c _ meets legal does = absurd does

pub info_op : (g : Settings) (n : ℕ) (ls : Labels) (h m : List Entry) (c : State) (reply : Reply) → Meets g n ls (state g h) c
    → LegalFrom g (state g h) m → Calls g (alone g) 0 ls ops.Info reply h m → IsDone g n ls (state g h) c reply m (info_piece g c)
info_op g n ls h m c (Info start end mode correction offset of_offset) meets legal does =
    info_done g n ls (state g h) c start end mode correction offset of_offset m meets legal does.0 does.1
info_op g n ls h m c _ meets legal does = absurd does

pub cancel_op : (g : Settings) (n : ℕ) (ls cl : Labels) (h m : List Entry) (c : State) (l : ℕ) (reply : Reply) → IsName g ls (ref_of ls l) (ref_of cl l)
    → Meets g n ls (state g h) c → LegalFrom g (state g h) m → Calls g (alone g) 0 ls (ops.Cancel l) reply h m
    → IsDone g n ls (state g h) c reply m (cancel_now g c (ref_of cl l) Cancel)
cancel_op g n ls cl h m c l (Cancel left) named meets legal does =
    cancel_done g n ls (state g h) c (ref_of ls l) (ref_of cl l) left Cancel m named (λ _. refl) meets legal does
cancel_op g n ls cl h m c l _ named meets legal does = absurd does

pub cancel_quiet_op : (g : Settings) (n : ℕ) (ls cl : Labels) (h m : List Entry) (c : State) (l : ℕ) (reply : Reply) → IsName g ls (ref_of ls l) (ref_of cl l)
    → Meets g n ls (state g h) c → LegalFrom g (state g h) m → Calls g (alone g) 0 ls (ops.CancelQuiet l) reply h m
    → IsDone g n ls (state g h) c reply m (cancel_now g c (ref_of cl l) (λ left. CancelQuiet))
cancel_quiet_op g n ls cl h m c l CancelQuiet named meets legal does =
    cancel_done g n ls (state g h) c (ref_of ls l) (ref_of cl l) does.0 (λ left. CancelQuiet) m named (λ _. refl) meets legal does.1
cancel_quiet_op g n ls cl h m c l _ named meets legal does = absurd does

pub read_op : (g : Settings) (n : ℕ) (ls cl : Labels) (h m : List Entry) (c : State) (l : ℕ) (reply : Reply) → IsName g ls (ref_of ls l) (ref_of cl l)
    → Meets g n ls (state g h) c → LegalFrom g (state g h) m → Calls g (alone g) 0 ls (ops.Read l) reply h m
    → IsDone g n ls (state g h) c reply m (read_now g c (ref_of cl l))
read_op g n ls cl h m c l (Read left) named meets legal does = read_done g n ls (state g h) c (ref_of ls l) (ref_of cl l) left m named meets legal does
read_op g n ls cl h m c l _ named meets legal does = absurd does

pub cancel_async_op : (g : Settings) (n : ℕ) (ls cl : Labels) (h m : List Entry) (c : State) (l p : ℕ) (info : Bool) (reply : Reply)
    → IsName g ls (ref_of ls l) (ref_of cl l) → Meets g n ls (state g h) c → LegalFrom g (state g h) m
    → Calls g (alone g) 0 ls (ops.CancelAsync l p info) reply h m
    → IsDone g n ls (state g h) c reply m (ask_piece g (request_for_op ToCancel cl l p info) CancelAsync)
cancel_async_op g n ls cl h m c l p info CancelAsync named meets legal does =
    ask_done g n ls (state g h) c (request_for_op ToCancel ls l p info) (request_for_op ToCancel cl l p info) CancelAsync m meets
    (record { kind = refl; timer = named; reply_to = refl; info = refl }) legal does refl
cancel_async_op g n ls cl h m c l p info _ named meets legal does = absurd does

pub read_async_op : (g : Settings) (n : ℕ) (ls cl : Labels) (h m : List Entry) (c : State) (l p : ℕ) (info : Bool) (reply : Reply)
    → IsName g ls (ref_of ls l) (ref_of cl l) → Meets g n ls (state g h) c → LegalFrom g (state g h) m
    → Calls g (alone g) 0 ls (ops.ReadAsync l p info) reply h m
    → IsDone g n ls (state g h) c reply m (ask_piece g (request_for_op ToRead cl l p info) ReadAsync)
read_async_op g n ls cl h m c l p info ReadAsync named meets legal does =
    ask_done g n ls (state g h) c (request_for_op ToRead ls l p info) (request_for_op ToRead cl l p info) ReadAsync m meets
    (record { kind = refl; timer = named; reply_to = refl; info = refl }) legal does refl
read_async_op g n ls cl h m c l p info _ named meets legal does = absurd does

pub serve_an_op : (g : Settings) (n : ℕ) (ls : Labels) (h m : List Entry) (c : State) (w : ℕ) (reply : Reply) → Meets g n ls (state g h) c
    → LegalFrom g (state g h) m → Calls g (alone g) 0 ls (ops.Serve w) reply h m → IsDone g n ls (state g h) c reply m (serve_op g c w)
serve_an_op g n ls h m c w (Serve served) meets legal does = serve_done g n ls w served h m c meets legal does
serve_an_op g n ls h m c w _ meets legal does = absurd does

pub advance_an_op : (g : Settings) (n : ℕ) (ls : Labels) (h m : List Entry) (c : State) (w : ℕ) (reply : Reply) → Meets g n ls (state g h) c
    → LegalFrom g (state g h) m → Calls g (alone g) 0 ls (ops.Advance w) reply h m → IsDone g n ls (state g h) c reply m (advance_op g c w)
advance_an_op g n ls h m c w (Advance to expired) meets legal does = advance_done g n ls w to expired (state g h) c m meets legal does
advance_an_op g n ls h m c w _ meets legal does = absurd does

pub deliver_an_op : (g : Settings) (n : ℕ) (ls : Labels) (h m : List Entry) (c : State) (w : ℕ) (reply : Reply) → Meets g n ls (state g h) c
    → LegalFrom g (state g h) m → Calls g (alone g) 0 ls (ops.Deliver w) reply h m → IsDone g n ls (state g h) c reply m (deliver_op c w)
deliver_an_op g n ls h m c w (Deliver put dropped) meets legal does = deliver_done g n ls w put dropped h m c meets legal does
deliver_an_op g n ls h m c w _ meets legal does = absurd does

pub turn_an_op : (g : Settings) (n : ℕ) (ls : Labels) (h m : List Entry) (c : State) (w : ℕ) (reply : Reply) → Meets g n ls (state g h) c
    → LegalFrom g (state g h) m → Calls g (alone g) 0 ls (ops.Turn w) reply h m → IsDone g n ls (state g h) c reply m (turn_op g c w)
turn_an_op g n ls h m c w (Turn turned) meets legal does = turn_done g n ls w turned h m c meets legal does
turn_an_op g n ls h m c w _ meets legal does = absurd does

pub receive_op : (g : Settings) (n : ℕ) (ls : Labels) (h m : List Entry) (c : State) (p : ℕ) (reply : Reply) → Meets g n ls (state g h) c
    → LegalFrom g (state g h) m → Calls g (alone g) 0 ls (ops.Receive p) reply h m → IsDone g n ls (state g h) c reply m (receive_piece c p (c.exited p))
receive_op g n ls h m c p (Received mail) meets legal does = receive_done g n ls (state g h) c p (Some mail) m meets legal does
receive_op g n ls h m c p ReceivedEmpty meets legal does = receive_done g n ls (state g h) c p None m meets legal does
receive_op g n ls h m c p ReceivedExited meets legal does = exited_done g n ls (state g h) c p m meets legal does
receive_op g n ls h m c p _ meets legal does = absurd does

pub exit_op : (g : Settings) (n : ℕ) (ls : Labels) (h m : List Entry) (c : State) (p : ℕ) (reply : Reply) → Meets g n ls (state g h) c
    → LegalFrom g (state g h) m → Calls g (alone g) 0 ls (ops.Exit p) reply h m → IsDone g n ls (state g h) c reply m (exit_piece g c p (c.exited p))
exit_op g n ls h m c p (Exit was_alive) meets legal does = exit_done g n ls p was_alive h m c meets legal does
exit_op g n ls h m c p _ meets legal does = absurd does

pub alive_op : (g : Settings) (n : ℕ) (ls : Labels) (h m : List Entry) (c : State) (p : ℕ) (reply : Reply) → Meets g n ls (state g h) c
    → LegalFrom g (state g h) m → Calls g (alone g) 0 ls (ops.Alive p) reply h m → IsDone g n ls (state g h) c reply m (alive_piece c p)
alive_op g n ls h m c p (Alive alive) meets legal does = alive_done g n ls (state g h) c p alive m meets legal does
alive_op g n ls h m c p _ meets legal does = absurd does

pub monitor_op : (g : Settings) (n : ℕ) (ls : Labels) (h m : List Entry) (c : State) (p : ℕ) (reply : Reply) → Meets g n ls (state g h) c
    → LegalFrom g (state g h) m → Calls g (alone g) 0 ls (ops.Monitor p) reply h m
    → IsDone g n ls (state g h) c reply m (monitor_piece c p (may_watch (c.mails p)))
monitor_op g n ls h m c p (Monitor number) meets legal does = monitor_done g n ls (state g h) c p number m meets legal does
monitor_op g n ls h m c p MonitorFull meets legal does = no_monitor_done g n ls (state g h) c p m meets legal does
monitor_op g n ls h m c p _ meets legal does = absurd does

pub demonitor_op : (g : Settings) (n : ℕ) (ls : Labels) (h m : List Entry) (c : State) (p k : ℕ) (reply : Reply) → Meets g n ls (state g h) c
    → LegalFrom g (state g h) m → Calls g (alone g) 0 ls (ops.Demonitor p k) reply h m → IsDone g n ls (state g h) c reply m (demonitor_piece c p k)
demonitor_op g n ls h m c p k (Demonitor stood) meets legal does = demonitor_done g n ls (state g h) c p k stood m meets legal does
demonitor_op g n ls h m c p k _ meets legal does = absurd does
