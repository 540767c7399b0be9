-- The ops of a caller, done alone after others, are done beside them.

use Rattle.std.proofs.Common.{◌≡◌, ℕ, ℤ, zero, suc, Bool, true, false, List, [], ◌∷◌, ◌++◌, Ok, Err, inl, inr, refl, ap, ◌∙◌, subst, append_assoc, append-nil, sym}
use Rattle.ert_clock.specs.declared.clock.ClockErr.TheVariants.{OffsetWide}
use Rattle.ert_defs.specs.{States.state, declared.entry.Actor.TheVariants.{Keeper, Wheel, Inbox, MailOf, Caller}, declared.entry.Entry.Entry, declared.mail.Request.Request, declared.mail.RequestKind.TheVariants.Cancel as ToCancel}
use Rattle.ert_defs.specs.{declared.mail.RequestKind.TheVariants.Read as ToRead, declared.settings.Mode.Mode, declared.settings.OffsetState.OffsetState, declared.settings.Settings.Settings, declared.timer.Kind.TheVariants.{Wrapped, Bare}}
use Rattle.ert_effects.specs.{Chains.{SweepsWheel, SweepsWheels, Exits}, ClockCalls.{TellsTime, TellsOffset, TellsSystemTime}, RequestCalls.{inbox_for, Asks}, TimerCalls.Cancels, Ways.{Way, Then, alone, beside}, WheelCalls.TellsAlive}
use Rattle.ert_effects.specs.{WheelCalls.{MarksExit, Sweeps, IsSwept}, declared.answers.MonitorErr.TheVariants.Full as NoMore, declared.answers.StartErr.TheVariants.{BadArg, Full}, declared.answers.Taken.TheVariants.{Mail as Taking, Empty}}
use Rattle.ert_effects.specs.{declared.answers.Taken.TheVariants.Exited}
use Rattle.ert_ops.specs.{Races.{IsCallersOp, MayDo}, declared.op.Op.Op, Calls.{Calls, Converts, reading_of, request_for_op, start_for_op}, Labels.{Labels, ref_of}, Scripts.{Script, labels_after}, declared.reply.Reply.Reply}
use Rattle.ert_ops.specs.declared.op.Op.TheVariants as ops
use Rattle.ert_program.proofs.{Delays.{Delays, step_beside, delay_step, delay_then, delay_nothing, late_as}, Having.{as_these, reads_have, cancels_have}}
use Rattle.ert_table.proofs.Holders.{same_actor_self}
use Rattle.ert_locks.proofs.Own.{ticks_have, finalizes_have, starts_have, sweeps_have, asks_have, takes_have, monitors_have, demonitors_have, notifies_have}
use Rattle.ert_locks.specs.Lent.{AllHave}
use Rattle.ert_ops.specs.declared.reply.Reply.TheVariants as replies

-- one entry by a caller
one_has : (n : ℕ) (es : List Entry) (e : Entry) → es ≡ e ∷ [] → e.by ≡ Caller n → AllHave (Caller n) es
one_has n es e is by =
    as_these (Caller n) es (e ∷ []) is ((rw (by, same_actor_self (Caller n)) refl), tt)

-- a process exits

delay_sweep : (g : Settings) (n p w : ℕ) → Delays (Caller n) (SweepsWheel g (alone g) n p w) (SweepsWheel g (beside g (Caller n)) n p w)
delay_sweep g n p w h x q m is free made =
    let step = step_beside g (Caller n) (Wheel w ∷ []) (Sweeps g n w p) (sweeps_have g n w p) h x q m is free made.steps in (
      inl (record {
        steps = step.0;
        swept = subst (λ (l : List Entry). IsSwept (state g l) w p) (ap (λ (l : List Entry). l ++ m) is ∙ append_assoc h x m) made.swept;
      }),
      step.1,
    )

delay_sweeps : (g : Settings) (n p w count : ℕ) → Delays (Caller n) (SweepsWheels g (alone g) n p w count) (SweepsWheels g (beside g (Caller n)) n p w count)
delay_sweeps g n p w zero = delay_nothing (Caller n)
delay_sweeps g n p w (suc count) =
    delay_then (Caller n) (SweepsWheel g (alone g) n p w) (SweepsWheels g (alone g) n p (suc w) count)
    (SweepsWheel g (beside g (Caller n)) n p w) (SweepsWheels g (beside g (Caller n)) n p (suc w) count)
    (delay_sweep g n p w) (delay_sweeps g n p (suc w) count)

delay_mark : (g : Settings) (n p : ℕ) (was_alive : Bool) → Delays (Caller n) (alone g [] (MarksExit g (Caller n) p was_alive)) (beside g (Caller n) [] (MarksExit g (Caller n) p was_alive))
delay_mark g n p was_alive = delay_step g (Caller n) [] (MarksExit g (Caller n) p was_alive) (λ s es made. one_has n es _ made refl)

delay_exit : (g : Settings) (n p : ℕ) (was_alive : Bool) → Delays (Caller n) (Exits g (alone g) n p was_alive) (Exits g (beside g (Caller n)) n p was_alive)
delay_exit g n p true =
    delay_then (Caller n) (alone g [] (MarksExit g (Caller n) p true)) (SweepsWheels g (alone g) n p 0 g.schedulers)
    (beside g (Caller n) [] (MarksExit g (Caller n) p true)) (SweepsWheels g (beside g (Caller n)) n p 0 g.schedulers)
    (delay_mark g n p true) (delay_sweeps g n p 0 g.schedulers)
delay_exit g n p false = delay_mark g n p false

-- a time is converted: no entry is made

delay_convert : (n : ℕ) (time : ℤ) (from to : ℕ) (reply : Reply) → Delays (Caller n) (λ h m. Converts time from to reply m) (λ h m. Converts time from to reply m)
delay_convert n time from to (replies.Convert value) h x p m is free made = (inr (made.2, (made.0, made.1, refl)), as_these (Caller n) m [] made.2 tt)
delay_convert n time from to replies.ConvertTooWide h x p m is free made = (inr (made.1, (made.0, refl)), as_these (Caller n) m [] made.1 tt)
delay_convert n time from to reply h x p m is free made = absurd made

-- a request is put into an inbox
delay_ask : (g : Settings) (n : ℕ) (q : Request) → Delays (Caller n) (alone g (Inbox (inbox_for g q) ∷ []) (Asks g n (inbox_for g q) q (Ok tt))) (beside g (Caller n) (Inbox (inbox_for g q) ∷ []) (Asks g n (inbox_for g q) q (Ok tt)))
delay_ask g n q = delay_step g (Caller n) (Inbox (inbox_for g q) ∷ []) (Asks g n (inbox_for g q) q (Ok tt)) (asks_have g n (inbox_for g q) q (Ok tt))

-- the settings are told
delay_info : (g : Settings) (n : ℕ) (ls : Labels) (start end : ℤ) (mode : Mode) (correction : Bool) (offset : ℤ) (stand : OffsetState)
    → Delays (Caller n) (Calls g (alone g) n ls ops.Info (replies.Info start end mode correction offset stand))
    (Calls g (beside g (Caller n)) n ls ops.Info (replies.Info start end mode correction offset stand))
delay_info g n ls start end mode correction offset stand h x p m is free made =
    let told = step_beside g (Caller n) [] (TellsOffset g (Caller n) (offset, stand)) (λ s es told. one_has n es _ told refl) h x p m is free made.1 in
    (inl (made.0, told.0), told.1)

-- a timer is cancelled, and the answer isn't printed
delay_quiet : (g : Settings) (n : ℕ) (ls : Labels) (l : ℕ) → Delays (Caller n) (Calls g (alone g) n ls (ops.CancelQuiet l) replies.CancelQuiet)
    (Calls g (beside g (Caller n)) n ls (ops.CancelQuiet l) replies.CancelQuiet)
delay_quiet g n ls l h x p m is free made =
    let told = step_beside g (Caller n) [] (Cancels g (Caller n) (ref_of ls l) made.0) (cancels_have g (Caller n) (ref_of ls l) made.0) h x p m is free made.1 in
    (inl (made.0, told.0), told.1)

-- each op of a caller
pub delay_call : (g : Settings) (n : ℕ) (ls : Labels) (op : Op) (reply : Reply) → IsCallersOp op
    → Delays (Caller n) (Calls g (alone g) n ls op reply) (Calls g (beside g (Caller n)) n ls op reply)
delay_call g n ls (ops.Tick mono sys) (replies.Tick now shift) may = delay_step g (Caller n) (Keeper ∷ []) _ (ticks_have g n (reading_of mono sys) false (Ok (record { now = now; shift = shift })))
delay_call g n ls (ops.Tick mono sys) (replies.TickWide value) may = delay_step g (Caller n) (Keeper ∷ []) _ (ticks_have g n (reading_of mono sys) false (Err (OffsetWide value)))
delay_call g n ls (ops.Check mono sys) (replies.Check now shift) may = delay_step g (Caller n) (Keeper ∷ []) _ (ticks_have g n (reading_of mono sys) true (Ok (record { now = now; shift = shift })))
delay_call g n ls (ops.Check mono sys) (replies.CheckWide value) may = delay_step g (Caller n) (Keeper ∷ []) _ (ticks_have g n (reading_of mono sys) true (Err (OffsetWide value)))
delay_call g n ls (ops.Finalize mono sys) (replies.Finalize old now shift) may = delay_step g (Caller n) (Keeper ∷ []) _ (finalizes_have g n (reading_of mono sys) (Ok (old, record { now = now; shift = shift })))
delay_call g n ls (ops.Finalize mono sys) (replies.FinalizeWide value) may = delay_step g (Caller n) (Keeper ∷ []) _ (finalizes_have g n (reading_of mono sys) (Err (OffsetWide value)))
delay_call g n ls (ops.Notify p) (replies.Notify put) may = delay_step g (Caller n) (MailOf p ∷ []) _ (notifies_have g n p (Ok put))
delay_call g n ls ops.Time (replies.Time now) may = delay_step g (Caller n) [] (TellsTime g (Caller n) now) (λ s es made. one_has n es _ made refl)
delay_call g n ls ops.System (replies.System time) may = delay_step g (Caller n) [] (TellsSystemTime g (Caller n) time) (λ s es made. as_these (Caller n) es _ made.entries ((rw (same_actor_self (Caller n)) refl), ((rw (same_actor_self (Caller n)) refl), tt)))
delay_call g n ls ops.Offset (replies.Offset offset stand) may = delay_step g (Caller n) [] (TellsOffset g (Caller n) (offset, stand)) (λ s es made. one_has n es _ made refl)
delay_call g n ls ops.Info (replies.Info start end mode correction offset stand) may = delay_info g n ls start end mode correction offset stand
delay_call g n ls (ops.Convert time from to) reply may = delay_convert n time from to reply
delay_call g n ls (ops.Start l w when p msg) (replies.StartOk timer) may = delay_step g (Caller n) (Wheel w ∷ []) _ (starts_have g n w (start_for_op when p msg Wrapped) (Ok timer))
delay_call g n ls (ops.Start l w when p msg) replies.StartBadArg may = delay_step g (Caller n) (Wheel w ∷ []) _ (starts_have g n w (start_for_op when p msg Wrapped) (Err BadArg))
delay_call g n ls (ops.Start l w when p msg) replies.StartFull may = delay_step g (Caller n) (Wheel w ∷ []) _ (starts_have g n w (start_for_op when p msg Wrapped) (Err Full))
delay_call g n ls (ops.SendAfter l w when p msg) (replies.SendAfterOk timer) may = delay_step g (Caller n) (Wheel w ∷ []) _ (starts_have g n w (start_for_op when p msg Bare) (Ok timer))
delay_call g n ls (ops.SendAfter l w when p msg) replies.SendAfterBadArg may = delay_step g (Caller n) (Wheel w ∷ []) _ (starts_have g n w (start_for_op when p msg Bare) (Err BadArg))
delay_call g n ls (ops.SendAfter l w when p msg) replies.SendAfterFull may = delay_step g (Caller n) (Wheel w ∷ []) _ (starts_have g n w (start_for_op when p msg Bare) (Err Full))
delay_call g n ls (ops.Cancel l) (replies.Cancel left) may = delay_step g (Caller n) [] _ (cancels_have g (Caller n) (ref_of ls l) left)
delay_call g n ls (ops.CancelQuiet l) replies.CancelQuiet may = delay_quiet g n ls l
delay_call g n ls (ops.Read l) (replies.Read left) may = delay_step g (Caller n) [] _ (reads_have g (Caller n) (ref_of ls l) left)
delay_call g n ls (ops.CancelAsync l p info) replies.CancelAsync may = delay_ask g n (request_for_op ToCancel ls l p info)
delay_call g n ls (ops.ReadAsync l p info) replies.ReadAsync may = delay_ask g n (request_for_op ToRead ls l p info)
delay_call g n ls (ops.Serve w) reply may = absurd may
delay_call g n ls (ops.Advance w) reply may = absurd may
delay_call g n ls (ops.Deliver w) reply may = absurd may
delay_call g n ls (ops.Turn w) reply may = absurd may
delay_call g n ls (ops.Receive p) (replies.Received mail) may = delay_step g (Caller n) (MailOf p ∷ []) _ (takes_have g n p (Taking mail))
delay_call g n ls (ops.Receive p) replies.ReceivedEmpty may = delay_step g (Caller n) (MailOf p ∷ []) _ (takes_have g n p Empty)
delay_call g n ls (ops.Receive p) replies.ReceivedExited may = delay_step g (Caller n) (MailOf p ∷ []) _ (takes_have g n p Exited)
delay_call g n ls (ops.Exit p) (replies.Exit was_alive) may = delay_exit g n p was_alive
delay_call g n ls (ops.Alive p) (replies.Alive alive) may = delay_step g (Caller n) [] (TellsAlive g (Caller n) p alive) (λ s es made. one_has n es _ made refl)
delay_call g n ls (ops.Monitor p) (replies.Monitor number) may = delay_step g (Caller n) (MailOf p ∷ []) _ (monitors_have g n p (Ok number))
delay_call g n ls (ops.Monitor p) replies.MonitorFull may = delay_step g (Caller n) (MailOf p ∷ []) _ (monitors_have g n p (Err NoMore))
delay_call g n ls (ops.Demonitor p k) (replies.Demonitor stood) may = delay_step g (Caller n) (MailOf p ∷ []) _ (demonitors_have g n p k stood)
delay_call g n ls op reply may = λ h x p m is free made. absurd made

-- a list of them
pub delay_script : (g : Settings) (n : ℕ) (ls : Labels) (list : List Op) (rs : List Reply) (after : Labels) → MayDo g list
    → Delays (Caller n) (Script g (alone g) n ls list rs after) (Script g (beside g (Caller n)) n ls list rs after)
delay_script g n ls [] rs after may h x p m is free made = (inr (made.2, (made.0, made.1, refl)), as_these (Caller n) m [] made.2 tt)
delay_script g n ls (op ∷ list) rs after may h x p m is free (piece, later, reply, others, parted, many, call, rest) =
    let one = λ (way : Way). Calls g way n ls op reply in
    let more = λ (way : Way). Script g way n (labels_after ls op reply) list others after in
    let both = delay_then (Caller n) (one (alone g)) (more (alone g)) (one (beside g (Caller n))) (more (beside g (Caller n)))
    (delay_call g n ls op reply may.0) (delay_script g n (labels_after ls op reply) list others after may.2)
    h x p m is free (record { before = piece; after = later; joined = parted; one = call; other = rest }) in (
      late_as (Then (one (beside g (Caller n))) (more (beside g (Caller n)))) (Script g (beside g (Caller n)) n ls (op ∷ list) rs after) h x m
          (λ l told. (told.before, told.after, reply, others, told.joined, many, told.one, told.other)) both.0,
      both.1,
    )

-- the labels at the end begin with those at the start

pub record Adds (ls new : Labels) : Type 0 where
  pub own : Labels
  pub added : new ≡ ls ++ own

op_adds : (ls : Labels) (op : Op) (reply : Reply) → Adds ls (labels_after ls op reply)
op_adds ls (ops.Start l w when p msg) (replies.StartOk timer) = record { own = (l, timer) ∷ []; added = refl }
op_adds ls (ops.SendAfter l w when p msg) (replies.SendAfterOk timer) = record { own = (l, timer) ∷ []; added = refl }
op_adds ls op reply = record { own = []; added = sym (append-nil ls) }

pub script_adds : (g : Settings) (way : Way) (n : ℕ) (ls : Labels) (list : List Op) (rs : List Reply) (after : Labels) (h m : List Entry)
    → Script g way n ls list rs after h m → Adds ls after
script_adds g way n ls [] rs after h m made = record { own = []; added = made.1 ∙ sym (append-nil ls) }
script_adds g way n ls (op ∷ list) rs after h m (piece, later, reply, others, parted, many, call, rest) =
    let one = op_adds ls op reply in
    let more = script_adds g way n (labels_after ls op reply) list others after (h ++ piece) later rest in
    record { own = one.own ++ more.own; added = more.added ∙ (ap (λ (l : Labels). l ++ more.own) one.added ∙ append_assoc ls one.own more.own) }
