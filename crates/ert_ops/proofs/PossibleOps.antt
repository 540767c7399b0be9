-- Each op in range can be done after each legal history in which no shift is due, and so can a list of ops: they have a
-- transcript.

use Rattle.std.proofs.Common.{◌≡◌, ◌≢◌, ℕ, ℤ, ◌<◌, ◌≤◌, Bool, true, false, cond, nat_lt, List, [], ◌∷◌, ◌++◌, None, Result, Ok, Err, inl, inr, refl, sym, subst, append_assoc, append-nil, arith}
use Rattle.std.proofs.lemmas.Bool.Decides.{nat_tests}
use Rattle.std.specs.Int.{w64}
use Rattle.std.specs.Prelude.{FitsSigned}
use Rattle.ert_defs.proofs.Runs.{legal-append, state-append}
use Rattle.ert_defs.specs.{Legal.{LegalFrom, Legal}, Lines.end_time, Mails.inbox_for, Settings.IsChecked, States.{State, state}, declared.entry.Act.TheVariants.{Plain, Force}, declared.entry.Actor.TheVariants.Caller}
use Rattle.ert_defs.specs.{declared.entry.Entry.Entry, declared.mail.Request.Request, declared.mail.RequestKind.TheVariants.{Cancel as ToCancel, Read as ToRead}, declared.settings.Settings.Settings, declared.timer.Kind.TheVariants.Wrapped}
use Rattle.ert_defs.specs.{declared.timer.Kind.TheVariants.Bare, declared.timer.TimerRef.TimerRef, declared.timer.When.When}
use Rattle.ert_effects.specs.{MailCalls.{Monitors, Takes}, TimerCalls.Starts, Ways.{Growth, Step, alone}, declared.answers.MonitorErr.MonitorErr, declared.answers.MonitorErr.TheVariants.{Full as NoMore, NoMemory as NoMonitorMemory}}
use Rattle.ert_effects.specs.{declared.answers.StartErr.StartErr, declared.answers.StartErr.TheVariants.{BadArg, Full, NoMemory}, declared.answers.Taken.Taken, declared.answers.Taken.TheVariants.{Mail as Taking, Empty, Exited}}
use Rattle.ert_laws.proofs.SlotUses.{timers_few}
use Rattle.ert_ops.specs.{Conversions.converted, Ranges.{IsOpInRange, AreOpsInRange}, declared.op.Op.Op, Existence.{IsPossible, CanFollow, LawOfExistence}, Calls.{Calls, reading_of, request_for_op, start_for_op}, Labels.{Labels, ref_of}}
use Rattle.ert_ops.specs.{Scripts.{labels_after, Script, lines_of, IsTranscript}, Texts.end_line, declared.reply.Reply.Reply}
use Rattle.ert_ops.specs.declared.op.Op.TheVariants as ops
use Rattle.ert_ops.proofs.{Following.{follow_none, legal_with}, PossibleCalls.{Acting, acting_tick, acted, wide, Finalizing, finalizing, finalized, too_wide, clock_answers, processes_answer, possible_read, possible_cancel, decide}}
use Rattle.ert_ops.proofs.{PossibleStarts.possible_start, PossibleSweeps.possible_exit, PossibleTurns.{possible_serve, can_advance, possible_deliver, possible_turn}, Reached.reached, Readings.Decides-fits, Runs.one_text}
use Rattle.ert_ops.specs.declared.reply.Reply.TheVariants as replies

-- an op can be done: with some reply it allows a legal piece
pub record CanDo (g : Settings) (n : ℕ) (h : List Entry) (ls : Labels) (op : Op) : Type 0 where
  pub reply : Reply
  pub follows : CanFollow g h (Calls g (alone g) n ls op reply)

-- by one step
do_step : (g : Settings) (n : ℕ) (h : List Entry) (ls : Labels) (op : Op) (reply : Reply) (allows : Step) → ((m : List Entry) → allows (state g h) m → Calls g (alone g) n ls op reply h m)
    → IsPossible g (state g h) allows → CanDo g n h ls op
do_step g n h ls op reply allows told x = record {
  reply = reply;
  follows = record {
    piece = x.entries;
    made = told x.entries x.allowed;
    legal = x.legal;
    undue = λ idle. subst (λ (s : State). s.clock.due ≡ None) (sym (state-append g h x.entries)) (x.undue idle);
  };
}

do_call : (g : Settings) (n : ℕ) (h : List Entry) (ls : Labels) (op : Op) (reply : Reply) (call : Growth) → ((m : List Entry) → call h m → Calls g (alone g) n ls op reply h m)
    → CanFollow g h call → CanDo g n h ls op
do_call g n h ls op reply call told x = record {
  reply = reply;
  follows = record { piece = x.piece; made = told x.piece x.made; legal = x.legal; undue = x.undue };
}

do_tick : (g : Settings) (n : ℕ) (h : List Entry) (ls : Labels) (mono sys : ℤ) → Acting g (state g h) n (reading_of mono sys) Plain → CanDo g n h ls (ops.Tick mono sys)
do_tick g n h ls mono sys (acted m does) = do_step g n h ls (ops.Tick mono sys) (replies.Tick m.now m.shift) _ (λ x made. made) does
do_tick g n h ls mono sys (wide value does) = do_step g n h ls (ops.Tick mono sys) (replies.TickWide value) _ (λ x made. made) does

do_check : (g : Settings) (n : ℕ) (h : List Entry) (ls : Labels) (mono sys : ℤ) → Acting g (state g h) n (reading_of mono sys) Force → CanDo g n h ls (ops.Check mono sys)
do_check g n h ls mono sys (acted m does) = do_step g n h ls (ops.Check mono sys) (replies.Check m.now m.shift) _ (λ x made. made) does
do_check g n h ls mono sys (wide value does) = do_step g n h ls (ops.Check mono sys) (replies.CheckWide value) _ (λ x made. made) does

do_finalize : (g : Settings) (n : ℕ) (h : List Entry) (ls : Labels) (mono sys : ℤ) → Finalizing g (state g h) n (reading_of mono sys) → CanDo g n h ls (ops.Finalize mono sys)
do_finalize g n h ls mono sys (finalized old m does) = do_step g n h ls (ops.Finalize mono sys) (replies.Finalize old m.now m.shift) _ (λ x made. made) does
do_finalize g n h ls mono sys (too_wide value does) = do_step g n h ls (ops.Finalize mono sys) (replies.FinalizeWide value) _ (λ x made. made) does

do_convert : (g : Settings) (n : ℕ) (h : List Entry) (ls : Labels) (time : ℤ) (from to : ℕ) → CanDo g n h ls (ops.Convert time from to)
do_convert g n h ls time from to =
    let x : ℤ = converted time from to in
    let none : (call : Growth) → call h [] → CanFollow g h call = follow_none g h in
    elim (decide _ (FitsSigned w64 x) (Decides-fits x)) [
      | inl fits ↦ record { reply = replies.Convert x; follows = none (Calls g (alone g) n ls (ops.Convert time from to) (replies.Convert x)) (refl, fits, refl) }
      | inr not ↦ record { reply = replies.ConvertTooWide; follows = none (Calls g (alone g) n ls (ops.Convert time from to) replies.ConvertTooWide) (not, refl) }
    ]

do_start : (g : Settings) (n : ℕ) (h : List Entry) (ls : Labels) (l w : ℕ) (when : When) (p msg : ℕ) (answer : Result TimerRef StartErr) → answer ≢ Err NoMemory
    → IsPossible g (state g h) (Starts g n w (start_for_op when p msg Wrapped) answer) → CanDo g n h ls (ops.Start l w when p msg)
do_start g n h ls l w when p msg (Ok t) not does = do_step g n h ls (ops.Start l w when p msg) (replies.StartOk t) _ (λ x made. made) does
do_start g n h ls l w when p msg (Err BadArg) not does = do_step g n h ls (ops.Start l w when p msg) replies.StartBadArg _ (λ x made. made) does
do_start g n h ls l w when p msg (Err Full) not does = do_step g n h ls (ops.Start l w when p msg) replies.StartFull _ (λ x made. made) does
do_start g n h ls l w when p msg (Err NoMemory) not does = absurd (not refl)

do_send : (g : Settings) (n : ℕ) (h : List Entry) (ls : Labels) (l w : ℕ) (when : When) (p msg : ℕ) (answer : Result TimerRef StartErr) → answer ≢ Err NoMemory
    → IsPossible g (state g h) (Starts g n w (start_for_op when p msg Bare) answer) → CanDo g n h ls (ops.SendAfter l w when p msg)
do_send g n h ls l w when p msg (Ok t) not does = do_step g n h ls (ops.SendAfter l w when p msg) (replies.SendAfterOk t) _ (λ x made. made) does
do_send g n h ls l w when p msg (Err BadArg) not does = do_step g n h ls (ops.SendAfter l w when p msg) replies.SendAfterBadArg _ (λ x made. made) does
do_send g n h ls l w when p msg (Err Full) not does = do_step g n h ls (ops.SendAfter l w when p msg) replies.SendAfterFull _ (λ x made. made) does
do_send g n h ls l w when p msg (Err NoMemory) not does = absurd (not refl)

do_receive : (g : Settings) (n : ℕ) (h : List Entry) (ls : Labels) (p : ℕ) (answer : Taken) → IsPossible g (state g h) (Takes g n p answer) → CanDo g n h ls (ops.Receive p)
do_receive g n h ls p (Taking mail) does = do_step g n h ls (ops.Receive p) (replies.Received mail) _ (λ x made. made) does
do_receive g n h ls p Empty does = do_step g n h ls (ops.Receive p) replies.ReceivedEmpty _ (λ x made. made) does
do_receive g n h ls p Exited does = do_step g n h ls (ops.Receive p) replies.ReceivedExited _ (λ x made. made) does

do_monitor : (g : Settings) (n : ℕ) (h : List Entry) (ls : Labels) (p : ℕ) (answer : Result ℕ MonitorErr) → answer ≢ Err NoMonitorMemory
    → IsPossible g (state g h) (Monitors g n p answer) → CanDo g n h ls (ops.Monitor p)
do_monitor g n h ls p (Ok number) not does = do_step g n h ls (ops.Monitor p) (replies.Monitor number) _ (λ x made. made) does
do_monitor g n h ls p (Err NoMore) not does = do_step g n h ls (ops.Monitor p) replies.MonitorFull _ (λ x made. made) does
do_monitor g n h ls p (Err NoMonitorMemory) not does = absurd (not refl)

inbox_within : (g : Settings) (q : Request) → 1 ≤ g.schedulers → inbox_for g q < g.schedulers
inbox_within g q some = at (nat_lt q.timer.wheel g.schedulers) refl
  where
    at : (b : Bool) → nat_lt q.timer.wheel g.schedulers ≡ b → cond b q.timer.wheel 0 < g.schedulers
    at true is = grind (arith, nat_tests)
    at false is = some

pub can_do : (g : Settings) (n : ℕ) (h : List Entry) (ls : Labels) (op : Op) → IsChecked g → n < g.callers → Legal g h → (state g h).clock.due ≡ None → IsOpInRange g op → CanDo g n h ls op
can_do g n h ls (ops.Tick mono sys) checked caller legal idle valid =
    do_tick g n h ls mono sys (acting_tick g (state g h) n (reading_of mono sys) false caller idle valid)
can_do g n h ls (ops.Check mono sys) checked caller legal idle valid =
    do_check g n h ls mono sys (acting_tick g (state g h) n (reading_of mono sys) true caller idle valid)
can_do g n h ls (ops.Finalize mono sys) checked caller legal idle valid =
    do_finalize g n h ls mono sys (finalizing g (state g h) n (reading_of mono sys) caller idle valid)
can_do g n h ls (ops.Notify p) checked caller legal idle process =
    let a = (processes_answer g (state g h)).notify n p caller process in
    do_step g n h ls (ops.Notify p) (replies.Notify a.0) _ (λ x made. made) a.1
can_do g n h ls ops.Time checked caller legal idle ranged =
    let a = (clock_answers g (state g h)).time (Caller n) caller in
    do_step g n h ls ops.Time (replies.Time a.0) _ (λ x made. made) a.1
can_do g n h ls ops.System checked caller legal idle ranged =
    let a = (clock_answers g (state g h)).system_time (Caller n) caller in
    do_step g n h ls ops.System (replies.System a.0) _ (λ x made. made) a.1
can_do g n h ls ops.Offset checked caller legal idle ranged =
    let a = (clock_answers g (state g h)).offset (Caller n) caller in
    do_step g n h ls ops.Offset (replies.Offset a.0.0 a.0.1) _ (λ x made. made) a.1
can_do g n h ls ops.Info checked caller legal idle ranged =
    let a = (clock_answers g (state g h)).offset (Caller n) caller in
    do_step g n h ls ops.Info (replies.Info g.start (end_time g) g.mode g.correction a.0.0 a.0.1) _
    (λ x made. (record { starts = refl; ends = refl; of_mode = refl; corrects = refl }, made)) a.1
can_do g n h ls (ops.Convert time from to) checked caller legal idle ranged = do_convert g n h ls time from to
can_do g n h ls (ops.Start l w when p msg) checked caller legal idle ranged =
    let a = possible_start g (state g h) n w (start_for_op when p msg Wrapped) (reached g h checked legal) (timers_few g h w legal)
    caller ranged.1 ranged.2 in
    do_start g n h ls l w when p msg a.0 a.1 a.2
can_do g n h ls (ops.SendAfter l w when p msg) checked caller legal idle ranged =
    let a = possible_start g (state g h) n w (start_for_op when p msg Bare) (reached g h checked legal) (timers_few g h w legal)
    caller ranged.1 ranged.2 in
    do_send g n h ls l w when p msg a.0 a.1 a.2
can_do g n h ls (ops.Cancel l) checked caller legal idle ranged =
    let a = possible_cancel g (state g h) (Caller n) (ref_of ls l) caller in
    do_step g n h ls (ops.Cancel l) (replies.Cancel a.0) _ (λ x made. made) a.1
can_do g n h ls (ops.CancelQuiet l) checked caller legal idle ranged =
    let a = possible_cancel g (state g h) (Caller n) (ref_of ls l) caller in
    do_step g n h ls (ops.CancelQuiet l) replies.CancelQuiet _ (λ x made. (a.0, made)) a.1
can_do g n h ls (ops.Read l) checked caller legal idle ranged =
    let a = possible_read g (state g h) (Caller n) (ref_of ls l) caller in
    do_step g n h ls (ops.Read l) (replies.Read a.0) _ (λ x made. made) a.1
can_do g n h ls (ops.CancelAsync l p info) checked caller legal idle ranged =
    let q : Request = request_for_op ToCancel ls l p info in
    do_step g n h ls (ops.CancelAsync l p info) replies.CancelAsync _ (λ x made. made)
    ((processes_answer g (state g h)).ask n (inbox_for g q) q caller (inbox_within g q checked.counts.schedulers_low) ranged.1)
can_do g n h ls (ops.ReadAsync l p info) checked caller legal idle ranged =
    let q : Request = request_for_op ToRead ls l p info in
    do_step g n h ls (ops.ReadAsync l p info) replies.ReadAsync _ (λ x made. made)
    ((processes_answer g (state g h)).ask n (inbox_for g q) q caller (inbox_within g q checked.counts.schedulers_low) ranged.1)
can_do g n h ls (ops.Serve w) checked caller legal idle sched =
    let a = possible_serve g h w legal sched in
    do_call g n h ls (ops.Serve w) (replies.Serve a.0) _ (λ x made. made) a.1
can_do g n h ls (ops.Advance w) checked caller legal idle sched =
    let a = can_advance g h w checked legal sched in
    do_call g n h ls (ops.Advance w) (replies.Advance a.0.0 a.0.1) _ (λ x made. made) a.1
can_do g n h ls (ops.Deliver w) checked caller legal idle sched =
    let a = possible_deliver g h w legal sched in
    do_call g n h ls (ops.Deliver w) (replies.Deliver a.0.0 a.0.1) _ (λ x made. made) a.1
can_do g n h ls (ops.Turn w) checked caller legal idle sched =
    let a = possible_turn g h w checked legal sched in
    do_call g n h ls (ops.Turn w) (replies.Turn a.0) _ (λ x made. made) a.1
can_do g n h ls (ops.Receive p) checked caller legal idle process =
    let a = (processes_answer g (state g h)).take n p caller process in
    do_receive g n h ls p a.0 a.1
can_do g n h ls (ops.Exit p) checked caller legal idle process =
    let a = possible_exit g h n p checked legal caller process in
    do_call g n h ls (ops.Exit p) (replies.Exit a.0) _ (λ x made. made) a.1
can_do g n h ls (ops.Alive p) checked caller legal idle process =
    let a = (processes_answer g (state g h)).alive (Caller n) p caller process in
    do_step g n h ls (ops.Alive p) (replies.Alive a.0) _ (λ x made. made) a.1
can_do g n h ls (ops.Monitor p) checked caller legal idle process =
    let a = (processes_answer g (state g h)).monitor n p caller process in
    do_monitor g n h ls p a.0 a.1 a.2
can_do g n h ls (ops.Demonitor p k) checked caller legal idle ranged =
    let a = (processes_answer g (state g h)).demonitor n p k caller ranged.0 in
    do_step g n h ls (ops.Demonitor p k) (replies.Demonitor a.0) _ (λ x made. made) a.1

-- a list of ops can be done

pub record CanRun (g : Settings) (n : ℕ) (h : List Entry) (ls : Labels) (list : List Op) : Type 0 where
  pub replies_are : List Reply
  pub after : Labels
  pub piece : List Entry
  pub runs : Script g (alone g) n ls list replies_are after h piece
  pub legal : LegalFrom g (state g h) piece
  pub undue : (state g (h ++ piece)).clock.due ≡ None

pub can_run : (g : Settings) (n : ℕ) (h : List Entry) (ls : Labels) (list : List Op) → IsChecked g → n < g.callers → Legal g h → (state g h).clock.due ≡ None → AreOpsInRange g list
    → CanRun g n h ls list
can_run g n h ls [] checked caller legal idle ranged = record { replies_are = []; after = ls; piece = []; runs = (refl, refl, refl); legal = tt; undue = subst (λ (l : List Entry). (state g l).clock.due ≡ None) (sym (append-nil h)) idle }
can_run g n h ls (op ∷ list) checked caller legal idle ranged =
    let one = can_do g n h ls op checked caller legal idle ranged.0 in
    let x = one.follows in
    let more = can_run g n (h ++ x.piece) (labels_after ls op one.reply) list checked caller
    (legal_with g h (Calls g (alone g) n ls op one.reply) legal x) (x.undue idle) ranged.1 in
    record {
      replies_are = one.reply ∷ more.replies_are;
      after = more.after;
      piece = x.piece ++ more.piece;
      runs = (x.piece, more.piece, one.reply, more.replies_are, refl, refl, x.made, more.runs);
      legal = legal-append g (state g h) x.piece more.piece x.legal (subst (λ (s : State). LegalFrom g s more.piece) (state-append g h x.piece) more.legal);
      undue = subst (λ (l : List Entry). (state g l).clock.due ≡ None) (append_assoc h x.piece more.piece) more.undue;
    }

pub transcripts_exist : LawOfExistence
transcripts_exist g list checked are ranged many =
    let all = can_run g 0 [] [] list checked checked.counts.callers_low tt refl ranged in
    let text : List ℕ = lines_of [] list all.replies_are ++ end_line (state g all.piece).clock.now in
    let is : IsTranscript g list text = record {
      entries = all.piece;
      replies = all.replies_are;
      labels = all.after;
      legal = all.legal;
      runs = all.runs;
      reads = refl;
    } in
    subst (IsTranscript g list) (one_text g list text are many is) is
