-- What is told of the entries of an advance with a bound, and that they leave the hand.

use Rattle.std.proofs.Common.{◌≡◌, ℕ, true, List, [], ◌∷◌, ◌++◌, Result, Ok, Err, refl, sym, ap, ◌∙◌, append-nil}
use Rattle.ert_defs.specs.{Actors.has_actor, Entries.{look_entry, advanced_entry}, Mails.SchedState, States.{State, next, run, state}, declared.entry.Actor.Actor, declared.entry.Actor.TheVariants.{Wheel, Sched}, declared.entry.Entry.Entry}
use Rattle.ert_defs.specs.{declared.memory.NoMemory.NoMemory, declared.settings.Settings.Settings}
use Rattle.ert_effects.specs.{SomeCalls.AdvancesSome, WheelCalls.{Advances, expiry_entries}, declared.answers.Left.Left, declared.answers.Left.TheVariants.{Nothing, Due, Moving}}
use Rattle.ert_shard.specs.Shards.{Share, AreHome}
use Rattle.ert_shard.proofs.Home.{advances_home}
use Rattle.ert_table.proofs.Parts.{own_after, sched_own, AreByThemselves}
use Rattle.ert_table.specs.{Calls.AreOnlyOf, Held.is_held, Takes.TakesPlace, declared.view.View.View}
use Rattle.ert_timers.proofs.{LawsHold.advances_only, SchedParts.{LeaveHand, hand_at, advances_leave}}

-- what is told of the entries of an advance: they are of the scheduler, with its wheel, start no timer for another share, and
-- leave the hand
pub record AreOfTurn (s : Share) (es : List Entry) : Type 0 where
  pub only : AreOnlyOf (Sched s.number ∷ (Wheel s.number ∷ [])) es
  pub leave : LeaveHand es
  pub home : AreHome s es

pub all_are : (s : Share) (g : Settings) (answer : Result (ℕ × ℕ) NoMemory) (st : State) (es : List Entry) → Advances g s.number answer st es → AreOfTurn s es
all_are s g answer st es advances = record {
  only = advances_only g s.number answer st es advances;
  leave = advances_leave g s.number answer st es advances;
  home = advances_home s g s.number answer st es advances;
}

front_only : (actors : List Actor) (es fs : List Entry) → AreOnlyOf actors (es ++ fs) → AreOnlyOf actors es
front_only actors [] fs all = tt
front_only actors (e ∷ es) fs all = (all.0, front_only actors es fs all.1)

front_leaves : (es fs : List Entry) → LeaveHand (es ++ fs) → LeaveHand es
front_leaves [] fs all = tt
front_leaves (e ∷ es) fs all = (all.0, front_leaves es fs all.1)

front_home : (s : Share) (es fs : List Entry) → AreHome s (es ++ fs) → AreHome s es
front_home s [] fs all = tt
front_home s (e ∷ es) fs all = (all.0, front_home s es fs all.1)

-- the entries of one with a bound are those of an advance: all, or but for the record
pub some_are : (s : Share) (g : Settings) (most : ℕ) (answer : Result (ℕ × ℕ × Left) NoMemory) (st : State) (es : List Entry)
    → AdvancesSome g s.number most answer st es → AreOfTurn s es
some_are s g most (Ok (to, expired, Nothing)) st es some =
    all_are s g (Ok (to, expired)) st es (record {
      now = some.now;
      tries = some.tries;
      expired = some.expired;
      settled = some.settled;
      due = some.due;
      once = some.once;
      entries = some.entries;
    })
some_are s g most (Ok (to, expired, Due)) st es some =
    let record_of : List Entry = advanced_entry s.number to ∷ [] in
    let all : AreOfTurn s (es ++ record_of) = all_are s g (Ok (to, expired)) st (es ++ record_of) (record {
      now = some.now;
      tries = some.tries;
      expired = some.expired;
      settled = some.settled;
      due = some.due;
      once = some.once;
      entries = ap (λ l. l ++ record_of) some.entries
          ∙ ap (λ l. look_entry (Sched s.number) some.now ∷ (l ++ record_of)) (append-nil (expiry_entries s.number some.tries));
    }) in
    record {
      only = front_only (Sched s.number ∷ (Wheel s.number ∷ [])) es record_of all.only;
      leave = front_leaves es record_of all.leave;
      home = front_home s es record_of all.home;
    }
some_are s g most (Ok (to, expired, Moving)) st es some =
    let record_of : List Entry = advanced_entry s.number to ∷ [] in
    let all : AreOfTurn s (es ++ record_of) = all_are s g (Ok (to, expired)) st (es ++ record_of) (record {
      now = some.now;
      tries = some.tries;
      expired = some.expired;
      settled = some.settled;
      due = some.due;
      once = some.once;
      entries = ap (λ l. l ++ record_of) some.entries
          ∙ ap (λ l. look_entry (Sched s.number) some.now ∷ (l ++ record_of)) (append-nil (expiry_entries s.number some.tries));
    }) in
    record {
      only = front_only (Sched s.number ∷ (Wheel s.number ∷ [])) es record_of all.only;
      leave = front_leaves es record_of all.leave;
      home = front_home s es record_of all.home;
    }
some_are s g most (Err e) st es some = all_are s g (Err e) st es some

-- entries that leave the hand, for a pass that holds the scheduler
leave_by : (g : Settings) (w : ℕ) (es : List Entry) → LeaveHand es → AreByThemselves g (λ (s : State). (s.scheds w).hand) es
leave_by g w [] leave = tt
leave_by g w (e ∷ es) leave = (
  (λ s t same. hand_at s.rows (s.scheds w) e.event (has_actor e (Sched w)) leave.0
      ∙ (same ∙ sym (hand_at t.rows (t.scheds w) e.event (has_actor e (Sched w)) leave.0))),
  leave_by g w es leave.1,
)

leave_run : (g : Settings) (w : ℕ) (s : State) (es : List Entry) → LeaveHand es → ((run g s es).scheds w).hand ≡ (s.scheds w).hand
leave_run g w s [] leave = refl
leave_run g w s (e ∷ es) leave = leave_run g w (next g s e) es leave.1 ∙ hand_at s.rows (s.scheds w) e.event (has_actor e (Sched w)) leave.0

-- so the hand stays
pub hand_kept : (g : Settings) (w : ℕ) (es : List Entry) (v u : View) → is_held v.actors (Sched w) ≡ true → TakesPlace g v es u → LeaveHand es
    → ((state g u.front).scheds w).hand ≡ ((state g v.front).scheds w).hand
hand_kept g w es v u held call leave =
    own_after g v es u (λ (s : State). (s.scheds w).hand)
    (λ s e not. ap (λ (x : SchedState). x.hand) (sched_own g v.actors w held s e not)) call (leave_by g w es leave)
    ∙ leave_run g w (state g v.front) es leave
