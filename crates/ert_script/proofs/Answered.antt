-- Ops that were done, by the answers of their calls.

use Rattle.std.proofs.Common.{◌≡◌, ℕ, ℤ, Bool, true, false, List, [], ◌∷◌, Option, Result, Ok, Err, refl, sym, ap, subst, ◌∙◌, append-nil}
use Rattle.std.specs.Prelude.{◌≢◌}
use Rattle.ert_clock.specs.declared.clock.{ClockErr.ClockErr, ClockErr.TheVariants.{BadReading, OffsetWide}, Moved.Moved}
use Rattle.ert_defs.specs.declared.{entry.Actor.TheVariants.{Keeper, Wheel, Inbox, MailOf, Caller}, entry.Entry.Entry, mail.Request.Request, mail.RequestKind.RequestKind, settings.OffsetState.OffsetState, settings.Settings.Settings}
use Rattle.ert_defs.specs.declared.{timer.Kind.TheVariants.{Wrapped, Bare}, timer.TimerRef.TimerRef, timer.When.When}
use Rattle.ert_effects.specs.{ClockCalls.{Ticks, Finalizes, TellsOffset}, MailCalls.Takes, RequestCalls.{inbox_for, Asks}, TimerCalls.{Reads, Cancels, Starts}, Ways.{Grows, Way}, declared.answers.StartErr.StartErr}
use Rattle.ert_effects.specs.{declared.answers.StartErr.TheVariants.{BadArg, Full, NoMemory as OutOfMemory}, declared.answers.Taken.Taken, declared.answers.Taken.TheVariants.{Mail as Taking, Empty, Exited}}
use Rattle.ert_ops.specs.{declared.op.Op.Op, Calls.{reading_of, start_for_op, request_for_op, AsksFor, Calls, Converts}, Labels.{Labels, ref_of}, declared.reply.Reply.Reply}
use Rattle.ert_ops.specs.declared.op.Op.TheVariants as ops
use Rattle.ert_effects.proofs.Growing.{grows_as}
use Rattle.ert_script.specs.{Doing.{IsAnswered, HasStarted, CannotAsk, BreaksOff}, Replies.{tick_told, check_told, finalize_told, settings_told, start_told, take_told}}
use Rattle.ert_ops.specs.declared.reply.Reply.TheVariants as replies

module _ (g : Settings) (way : Way) (n : ℕ) (timer : TimerRef) (f h : List Entry) where
  -- a reply whose calls don't depend on labels
  done : (op : Op) (reply : Reply) → ((ls : _) → Grows (Calls g way n ls op reply) f h) → IsAnswered g way n op timer (Ok reply) f h
  done op reply grows = record { does = λ ls of. grows ls; fails = λ ls of. tt }

  pub tick_grows : (mono sys : ℤ) (r : Result Moved ClockErr) → r ≢ Err BadReading → Grows (way (Keeper ∷ []) (Ticks g n (reading_of mono sys) false r)) f h
      → (ls : Labels) → Grows (Calls g way n ls (ops.Tick mono sys) (tick_told r)) f h
  tick_grows mono sys (Ok m) good grows ls = grows
  tick_grows mono sys (Err (OffsetWide value)) good grows ls = grows
  tick_grows mono sys (Err BadReading) good grows ls = absurd (good refl)

  pub tick_answered : (mono sys : ℤ) (r : Result Moved ClockErr) → r ≢ Err BadReading → Grows (way (Keeper ∷ []) (Ticks g n (reading_of mono sys) false r)) f h
      → IsAnswered g way n (ops.Tick mono sys) timer (Ok (tick_told r)) f h
  tick_answered mono sys r good grows = done _ _ (tick_grows mono sys r good grows)

  pub check_answered : (mono sys : ℤ) (r : Result Moved ClockErr) → r ≢ Err BadReading → Grows (way (Keeper ∷ []) (Ticks g n (reading_of mono sys) true r)) f h
      → IsAnswered g way n (ops.Check mono sys) timer (Ok (check_told r)) f h
  check_answered mono sys (Ok m) good grows = done _ _ (λ ls. grows)
  check_answered mono sys (Err (OffsetWide value)) good grows = done _ _ (λ ls. grows)
  check_answered mono sys (Err BadReading) good grows = absurd (good refl)

  pub finalize_answered : (mono sys : ℤ) (r : Result (OffsetState × Moved) ClockErr) → r ≢ Err BadReading
      → Grows (way (Keeper ∷ []) (Finalizes g n (reading_of mono sys) r)) f h → IsAnswered g way n (ops.Finalize mono sys) timer (Ok (finalize_told r)) f h
  finalize_answered mono sys (Ok p) good grows = done _ _ (λ ls. grows)
  finalize_answered mono sys (Err (OffsetWide value)) good grows = done _ _ (λ ls. grows)
  finalize_answered mono sys (Err BadReading) good grows = absurd (good refl)

  pub info_answered : (offset : ℤ) (state : OffsetState) → Grows (way [] (TellsOffset g (Caller n) (offset, state))) f h
      → IsAnswered g way n ops.Info timer (Ok (settings_told g offset state)) f h
  info_answered offset state grows =
      done _ _ (λ ls. record { piece = grows.piece; grown = grows.grown; made = (record { starts = refl; ends = refl; of_mode = refl; corrects = refl }, grows.made) })

  pub start_answered : (label wheel : ℕ) (when : When) (dest msg : ℕ) (r : Result TimerRef StartErr) → r ≢ Err OutOfMemory
      → Grows (way (Wheel wheel ∷ []) (Starts g n wheel (start_for_op when dest msg Wrapped) r)) f h
      → IsAnswered g way n (ops.Start label wheel when dest msg) timer (Ok (start_told Wrapped r)) f h
  start_answered label wheel when dest msg (Ok t) some grows = done _ _ (λ ls. grows)
  start_answered label wheel when dest msg (Err BadArg) some grows = done _ _ (λ ls. grows)
  start_answered label wheel when dest msg (Err Full) some grows = done _ _ (λ ls. grows)
  start_answered label wheel when dest msg (Err OutOfMemory) some grows = absurd (some refl)

  pub send_after_answered : (label wheel : ℕ) (when : When) (dest msg : ℕ) (r : Result TimerRef StartErr) → r ≢ Err OutOfMemory
      → Grows (way (Wheel wheel ∷ []) (Starts g n wheel (start_for_op when dest msg Bare) r)) f h
      → IsAnswered g way n (ops.SendAfter label wheel when dest msg) timer (Ok (start_told Bare r)) f h
  send_after_answered label wheel when dest msg (Ok t) some grows = done _ _ (λ ls. grows)
  send_after_answered label wheel when dest msg (Err BadArg) some grows = done _ _ (λ ls. grows)
  send_after_answered label wheel when dest msg (Err Full) some grows = done _ _ (λ ls. grows)
  send_after_answered label wheel when dest msg (Err OutOfMemory) some grows = absurd (some refl)

  pub take_answered : (p : ℕ) (r : Taken) → Grows (way (MailOf p ∷ []) (Takes g n p r)) f h → IsAnswered g way n (ops.Receive p) timer (Ok (take_told r)) f h
  take_answered p (Taking mail) grows = done _ _ (λ ls. grows)
  take_answered p Empty grows = done _ _ (λ ls. grows)
  take_answered p Exited grows = done _ _ (λ ls. grows)

  pub cancel_answered : (label : ℕ) (left : Option ℕ) → Grows (way [] (Cancels g (Caller n) timer left)) f h
      → IsAnswered g way n (ops.Cancel label) timer (Ok (replies.Cancel left)) f h
  cancel_answered label left grows = record {
    does = λ ls of. subst (λ (t : TimerRef). Grows (way [] (Cancels g (Caller n) t left)) f h) (sym (of label refl)) grows;
    fails = λ ls of. tt;
  }

  pub quiet_answered : (label : ℕ) (left : Option ℕ) → Grows (way [] (Cancels g (Caller n) timer left)) f h
      → IsAnswered g way n (ops.CancelQuiet label) timer (Ok replies.CancelQuiet) f h
  quiet_answered label left grows = record {
    does = λ ls of. record {
      piece = grows.piece;
      grown = grows.grown;
      made = (left, subst (λ (t : TimerRef). way [] (Cancels g (Caller n) t left) f grows.piece) (sym (of label refl)) grows.made);
    };
    fails = λ ls of. tt;
  }

  pub read_answered : (label : ℕ) (left : Option ℕ) → Grows (way [] (Reads g (Caller n) timer left)) f h
      → IsAnswered g way n (ops.Read label) timer (Ok (replies.Read left)) f h
  read_answered label left grows = record {
    does = λ ls of. subst (λ (t : TimerRef). Grows (way [] (Reads g (Caller n) t left)) f h) (sym (of label refl)) grows;
    fails = λ ls of. tt;
  }

  -- a request was put, for the timer of a label
  pub asked_for : (kind : RequestKind) (ls : Labels) (label p : ℕ) (info : Bool) (request : Request) → request ≡ record { kind = kind; timer = timer; reply_to = p; info = info }
      → ref_of ls label ≡ timer → Grows (way (Inbox (inbox_for g request) ∷ []) (Asks g n (inbox_for g request) request (Ok tt))) f h
      → Grows (AsksFor g way n (request_for_op kind ls label p info)) f h
  asked_for kind ls label p info request is of grows =
      subst (λ (q : Request). Grows (AsksFor g way n q) f h)
      (is ∙ ap (λ (t : TimerRef). record { kind = kind; timer = t; reply_to = p; info = info }) (sym of)) grows

  -- a request could not be put, for the timer of a label
  pub not_asked_for : (kind : RequestKind) (ls : Labels) (label p : ℕ) (info : Bool) (request : Request) → request ≡ record { kind = kind; timer = timer; reply_to = p; info = info }
      → ref_of ls label ≡ timer → Grows (CannotAsk g way n request) f h → Grows (CannotAsk g way n (request_for_op kind ls label p info)) f h
  not_asked_for kind ls label p info request is of grows =
      subst (λ (q : Request). Grows (CannotAsk g way n q) f h)
      (is ∙ ap (λ (t : TimerRef). record { kind = kind; timer = t; reply_to = p; info = info }) (sym of)) grows

-- a conversion makes no entry
pub convert_answered : (g : Settings) (way : Way) (n : ℕ) (timer : TimerRef) (f : List Entry) (time : ℤ) (from to : ℕ) (reply : Reply) → Converts time from to reply []
    → IsAnswered g way n (ops.Convert time from to) timer (Ok reply) f f
convert_answered g way n timer f time from to reply told =
    done g way n timer f f (ops.Convert time from to) reply (λ ls. record { piece = []; grown = sym (append-nil f); made = told })

-- a start whose label couldn't be bound has started its timer
broken : (g : Settings) (way : Way) (n : ℕ) (ls : Labels) (op : Op) (reply : Reply) (h m : List Entry) → HasStarted op reply → Calls g way n ls op reply h m
    → BreaksOff g way n ls op h m
broken g way n ls (ops.Start label wheel when dest msg) (replies.StartOk timer) h m has made = (timer, made)
broken g way n ls (ops.SendAfter label wheel when dest msg) (replies.SendAfterOk timer) h m has made = (timer, made)
broken g way n ls op reply h m has made = absurd has

pub unbound : (g : Settings) (way : Way) (n : ℕ) (ls : Labels) (op : Op) (reply : Reply) (f h : List Entry) → HasStarted op reply
    → Grows (Calls g way n ls op reply) f h → Grows (BreaksOff g way n ls op) f h
unbound g way n ls op reply f h has grows =
    grows_as (Calls g way n ls op reply) (BreaksOff g way n ls op) f h (λ m made. broken g way n ls op reply f m has made) grows
