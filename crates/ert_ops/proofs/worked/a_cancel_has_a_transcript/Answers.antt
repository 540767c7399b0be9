-- The script run of one cancel.

use Rattle.std.proofs.Common.{◌≡◌, pos, true, false, List, [], ◌∷◌, ◌++◌, Some, None, refl, rules}
use Rattle.std.specs.Fmt.{digits}
use Rattle.ert_effects.specs.{TimerCalls.{IsStarted, Cancels}, Ways.alone}
use Rattle.ert_defs.specs.{Entries.{look_entry, arm_entry, mark_entry, peek_entry, cancel_entry}, States.state, Timers.timer_at, declared.entry.Actor.TheVariants.Caller, declared.entry.Entry.Entry, declared.timer.Kind.TheVariants.Wrapped}
use Rattle.ert_defs.specs.{declared.timer.TimerRef.TimerRef, declared.timer.When.TheVariants.After}
use Rattle.ert_ops.specs.{Calls.start_for_op, Scripts.Script, Worked.plain, declared.reply.Reply.TheVariants.{StartOk, Cancel}}
use Rattle.ert_ops.specs.declared.op.Op.TheVariants as ops
use Rattle.ert_ops.proofs.worked.a_cancel_has_a_transcript.Goals as goal

-- a service may take any free slot for a timer, as slot 3
abbrev timer : TimerRef
timer = timer_at 0 3 1

abbrev begun : List Entry
begun = look_entry (Caller 0) (pos 0)
    ∷ arm_entry 0 timer (start_for_op (After (pos 5)) 0 7 Wrapped)
    ∷ mark_entry (Caller 0) 0 false false
    ∷ []

abbrev ended : List Entry
ended = look_entry (Caller 0) (pos 0) ∷ peek_entry (Caller 0) timer (Some 5) ∷ cancel_entry (Caller 0) timer (Some 5) ∷ []

starts : IsStarted plain 0 0 (start_for_op (After (pos 5)) 0 7 Wrapped) timer (state plain []) begun
starts = record { now = pos 0; probes = []; was = false; closing = []; on_wheel = refl; are_probes = tt; closes = refl; entries = refl }

cancel : Cancels plain (Caller 0) timer (Some 5) (state plain begun) ended
cancel = record {
  now = pos 0;
  found = Some 5;
  entries = refl;
  unread = λ out. let clash : true ≡ false = out in cc;
  quiet = λ none. let clash : Some 5 ≡ None = none in cc;
}

cancels : Script plain (alone plain) 0 ((1, timer) ∷ []) (ops.Cancel 1 ∷ []) (Cancel (Some 5) ∷ []) ((1, timer) ∷ []) begun ended
cancels = (ended, [], Cancel (Some 5), [], refl, refl, cancel, (refl, refl, refl))

pub returns : goal.returns
unfolding digits
returns c = record {
  one_cancel = record {
    entries = begun ++ ended;
    replies = StartOk timer ∷ Cancel (Some 5) ∷ [];
    labels = (1, timer) ∷ [];
    legal = search rules;
    runs = (begun, ended, StartOk timer, Cancel (Some 5) ∷ [], refl, refl, starts, cancels);
    reads = refl;
  };
  unbound = refl;
}
