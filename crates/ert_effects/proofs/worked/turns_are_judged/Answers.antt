use Rattle.std.proofs.Common.{◌≡◌, ◌∙◌, pos, List, [], ◌∷◌, ◌++◌, Some, None, Ok, refl, rules, sym, ap, subst, append_assoc, lit≤}
use Rattle.ert_effects.specs.{Chains.{HasServed, ServesAll, AdvancesWheel, HasDelivered}, Ways.alone, Worked.{one, request_to_read, asked_at_once, serving, idling, advancing, delivering, turning}, declared.answers.Handed.TheVariants.Put}
use Rattle.ert_defs.specs.{States.state, Timers.Row, Worked.{timer, by_sched}, declared.entry.Actor.TheVariants.{Inbox, MailOf}, declared.entry.Entry.Entry, declared.entry.Event.TheVariants.{Look, Peek, Pick, Answer}}
use Rattle.ert_defs.specs.{declared.timer.Kind.TheVariants.Wrapped}
use Rattle.ert_effects.proofs.worked.turns_are_judged.Goals as goal

-- the scheduler takes the request
abbrev picking : List Entry
picking = by_sched (Some (Inbox 0)) (Pick 0 (Some request_to_read)) ∷ []

-- and reads the timer
abbrev reading : List Entry
reading = by_sched None (Look (pos 1000000)) ∷ (by_sched None (Peek timer (Some 0)) ∷ [])

-- the row of the timer
abbrev row : Row
row = record { timer = timer; deadline = 1; dest = 0; msg = 7; kind = Wrapped }

-- the request is served
served : HasServed one (alone one) 0 asked_at_once serving
served =
    record {
      request = request_to_read;
      left = Some 0;
      steps = record {
        before = picking;
        after = reading ++ by_sched (Some (MailOf 0)) (Answer 0 (Some 0)) ∷ [];
        joined = refl;
        one = refl;
        other = record { steps = reading; done = record { now = pos 1000000; entries = refl; quiet = λ out. cc }; entries = refl };
      };
    }

-- and no other
all_served : ServesAll one (alone one) 0 (Ok 1) asked_at_once (serving ++ idling)
all_served = (
  search rules,
  record {
    before = serving;
    after = idling;
    joined = refl;
    one = record { before = serving; after = []; joined = refl; one = served; other = refl };
    other = refl;
  },
)

-- the timer expires
advanced : AdvancesWheel one (alone one) 0 (Ok (1, 1)) (asked_at_once ++ (serving ++ idling)) advancing
advanced = record {
  now = pos 1000000;
  tries = (record { timer = timer; missed = None }) ∷ [];
  expired = refl;
  settled = (tt, tt);
  due = (record { row = row; stands = refl; due = lit≤ tt }, tt);
  once = (tt, tt);
  entries = refl;
}

-- and is delivered
delivered : HasDelivered one (alone one) 0 (1, 0) ((asked_at_once ++ (serving ++ idling)) ++ advancing) delivering
delivered = record {
  hows = Put ∷ [];
  runs = record {
    before = delivering;
    after = [];
    joined = refl;
    one = record { expired = row; first = refl; step = refl };
    other = refl;
  };
  put_is = refl;
  dropped_is = refl;
  done = refl;
}

pub returns-clause-done : goal.returns-clause-done
returns-clause-done c = record {
  before = serving ++ idling;
  after = advancing ++ delivering;
  joined = refl;
  one = all_served;
  other = record { before = advancing; after = delivering; joined = refl; one = advanced; other = delivered };
}

-- a turn that leaves the delivery has a timer waiting at its end
pub returns-clause-undelivered : goal.returns-clause-undelivered
returns-clause-undelivered c turns =
    let rest = turns.other in
    let parts : turning ≡ turns.before ++ (rest.before ++ rest.after) = turns.joined ∙ ap (λ x. turns.before ++ x) rest.joined in
    let whole : ((asked_at_once ++ turns.before) ++ rest.before) ++ rest.after ≡ asked_at_once ++ turning =
    append_assoc (asked_at_once ++ turns.before) rest.before rest.after
    ∙ (append_assoc asked_at_once turns.before (rest.before ++ rest.after) ∙ ap (λ x. asked_at_once ++ x) (sym parts)) in
    let waits : ((state one (asked_at_once ++ turning)).scheds 0).expired ≡ row ∷ [] = refl in
    let none : ((state one (asked_at_once ++ turning)).scheds 0).expired ≡ [] =
    subst (λ h. ((state one h).scheds 0).expired ≡ []) whole rest.other.done in
    absurd (cc (sym waits ∙ none))
