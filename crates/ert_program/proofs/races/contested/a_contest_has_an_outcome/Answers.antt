-- The script runs of two cancels at once, and the turn after them.

use Rattle.std.proofs.Common.{◌≡◌, ℕ, pos, true, false, List, [], ◌∷◌, ◌++◌, Option, Some, None, Ok, refl, rules, arith}
use Rattle.std.specs.Fmt.{digits}
use Rattle.ert_effects.specs.{Chains.Turns, TimerCalls.{IsStarted, Cancels}, Ways.alone, WheelCalls.HasAdvanced, declared.answers.Turned.Turned}
use Rattle.ert_defs.specs.{Entries.{look_entry, peek_entry, cancel_entry, pick_entry, advanced_entry}, States.state, declared.entry.Actor.TheVariants.{Caller, Sched}, declared.entry.Entry.Entry, declared.timer.Kind.TheVariants.Wrapped}
use Rattle.ert_defs.specs.{declared.timer.When.TheVariants.After}
use Rattle.ert_ops.specs.declared.op.Op.TheVariants as ops
use Rattle.ert_program.specs.{WorkedRace.{two_callers, two_cancels, contested_timer, contest_start, contested, closing_turn}, Made.{MakesTurns, MakesRound}, Outcomes.{DoesList, ActAtOnce}}
use Rattle.ert_ops.specs.{Calls.start_for_op, declared.reply.Reply.TheVariants.{StartOk, Cancel}}
use Rattle.ert_program.proofs.races.contested.a_contest_has_an_outcome.Goals as goal

starts : IsStarted two_callers 0 0 (start_for_op (After (pos 5)) 0 7 Wrapped) contested_timer (state two_callers []) contest_start
starts = record { now = pos 0; probes = []; was = false; closing = []; on_wheel = refl; are_probes = tt; closes = refl; entries = refl }

-- a caller's cancel, of which this is told
abbrev cancelling : ℕ → Option ℕ → List Entry
cancelling k left = look_entry (Caller k) (pos 0) ∷ peek_entry (Caller k) contested_timer (Some 5) ∷ cancel_entry (Caller k) contested_timer left ∷ []

cancels : (k : ℕ) (left : Option ℕ) → Cancels two_callers (Caller k) contested_timer left (state two_callers contest_start) (cancelling k left)
cancels k left = record {
  now = pos 0;
  found = Some 5;
  entries = refl;
  unread = λ out. let clash : true ≡ false = out in cc;
  quiet = λ none. let clash : Some 5 ≡ None = none in cc;
}

does_0 : DoesList two_callers ((1, contested_timer) ∷ []) 0 (ops.Cancel 1 ∷ []) (record { replies = Cancel None ∷ []; own = [] }) contest_start contested
does_0 = record {
  pieces = contested;
  after = [];
  parted = refl;
  made = (
    contested,
    [],
    Cancel None,
    [],
    refl,
    refl,
    record { before = []; during = contested; entries = cancelling 0 None; parted = refl; away = refl; whole = refl; own = refl; allowed = cancels 0 None },
    (refl, refl, refl),
  );
  away = refl;
}

does_1 : DoesList two_callers ((1, contested_timer) ∷ []) 1 (ops.Cancel 1 ∷ []) (record { replies = Cancel (Some 5) ∷ []; own = [] }) contest_start contested
does_1 = record {
  pieces = contested;
  after = [];
  parted = refl;
  made = (
    contested,
    [],
    Cancel (Some 5),
    [],
    refl,
    refl,
    record { before = []; during = contested; entries = cancelling 1 (Some 5); parted = refl; away = refl; whole = refl; own = refl; allowed = cancels 1 (Some 5) },
    (refl, refl, refl),
  );
  away = refl;
}

-- no scheduler makes a turn beside them
turns_none : (w : ℕ) → MakesTurns two_callers w 0 contest_start contested
turns_none w = record { turns = []; counted = refl; makes = record { pieces = []; after = contested; parted = refl; made = refl; away = refl } }

at_once : ActAtOnce two_callers ((1, contested_timer) ∷ []) two_cancels (record { replies = Cancel None ∷ []; own = [] } ∷ record { replies = Cancel (Some 5) ∷ []; own = [] } ∷ []) contest_start contested
at_once = record {
  done = (does_0, (does_1, tt));
  turned = λ w below. turns_none w;
  makers = search rules;
}

abbrev turned : Turned
turned = record { served = 0; to = 0; expired = 0; put = 0; dropped = 0 }

advances : HasAdvanced 0 (0, 0) (state two_callers ((contest_start ++ contested) ++ pick_entry 0 None ∷ [])) (look_entry (Sched 0) (pos 0) ∷ advanced_entry 0 0 ∷ [])
advances = record { now = pos 0; tries = []; expired = refl; settled = tt; due = tt; once = tt; entries = refl }

turns : Turns two_callers (alone two_callers) 0 (Ok turned) (contest_start ++ contested) closing_turn
turns = record {
  before = pick_entry 0 None ∷ [];
  after = look_entry (Sched 0) (pos 0) ∷ advanced_entry 0 0 ∷ [];
  joined = refl;
  one = (omega arith, record { before = []; after = pick_entry 0 None ∷ []; joined = refl; one = refl; other = refl });
  other = record {
    before = look_entry (Sched 0) (pos 0) ∷ advanced_entry 0 0 ∷ [];
    after = [];
    joined = refl;
    one = advances;
    other = record { hows = []; runs = refl; put_is = refl; dropped_is = refl; done = refl };
  };
}

round : MakesRound two_callers 1 (contest_start ++ contested) closing_turn
round = record {
  turns = turned ∷ [];
  counted = refl;
  made = record { before = closing_turn; after = []; joined = refl; one = turns; other = refl };
}

pub returns : goal.returns
unfolding digits
returns c = record {
  legal = search rules;
  first = contest_start;
  later = contested ++ closing_turn;
  parted = refl;
  replies = StartOk contested_timer ∷ [];
  labels = (1, contested_timer) ∷ [];
  began = (contest_start, [], StartOk contested_timer, [], refl, refl, starts, (refl, refl, refl));
  dids = record { replies = Cancel None ∷ []; own = [] } ∷ record { replies = Cancel (Some 5) ∷ []; own = [] } ∷ [];
  raced = record { before = contested; after = closing_turn; joined = refl; one = at_once; other = round };
  reads = refl;
}
