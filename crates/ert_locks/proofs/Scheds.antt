-- What a scheduler has after its steps with a part.

use Rattle.std.proofs.Common.{◌≡◌, ℕ, ◌-◌, ◌≤◌, true, List, [], ◌∷◌, ◌++◌, length, Option, Some, Result, Ok, Err, refl, sym, ap, subst, ◌∙◌}
use Rattle.std.specs.Prelude.{IfOk}
use Rattle.atomic_table.specs.Seated.{TableId}
use Rattle.ert_effects.specs.{Chains.Hands, MailCalls.HandsOver, WheelCalls.Advances, Ways.{Grows, beside}, declared.answers.Handed.Handed}
use Rattle.ert_defs.proofs.Runs.{state-append, exit_stays}
use Rattle.ert_defs.specs.{Legal.Legal, Mails.{SchedState, first_of, others_of}, States.{State, run, state}, Timers.Row, declared.entry.Actor.TheVariants.{MailOf, Sched}, declared.entry.Entry.Entry, declared.mail.Request.Request}
use Rattle.ert_defs.specs.{declared.memory.NoMemory.NoMemory, declared.settings.Settings.Settings, declared.settings.TheConstants.MOST_SLOTS}
use Rattle.ert_laws.proofs.RowRanges.{first_placed}
use Rattle.ert_locks.specs.{Hands.{hand_left, rows_left, counted}, Kinds.{Kind, scheds, mails}, Lent.IsLent, Names.IsDesk}
use Rattle.ert_mail.specs.Mailboxes.{Mailbox, HoldsMailboxAndSched, handed, sched_after_answer}
use Rattle.ert_timers.proofs.SchedParts.{advance_hand, advance_still, advance_fits, difference}
use Rattle.ert_table.proofs.Makings.{if_ok_made}
use Rattle.ert_timers.specs.{SchedParts.SchedStands, declared.sched_part.SchedPart.SchedPart, Expiring.IsAdvanced}
use Rattle.ert_table.specs.{Calls.{IsMade, IsMadeIfOk}, Desks.{settings_of, front_of, view_of, state_of}, Held.is_held, declared.desk.Desk.Desk, declared.desk.Pass.Pass, declared.view.View.View}

-- an answer empties the hand, or leaves what the scheduler has
pub answered_hand : (left : Result (Option ℕ) NoMemory) (s : SchedState) (hand : Option Request) → hand ≡ s.hand → hand_left left hand ≡ (sched_after_answer left s).hand
answered_hand (Ok left) s hand is = refl
answered_hand (Err e) s hand is = is

pub answered_expired : (left : Result (Option ℕ) NoMemory) (s : SchedState) (rows : List Row) → rows ≡ s.expired → rows ≡ (sched_after_answer left s).expired
answered_expired (Ok left) s rows is = is
answered_expired (Err e) s rows is = is

-- one that is handed over goes from the list
pub handed_hand : (how : Result Handed NoMemory) (s : SchedState) (hand : Option Request) → hand ≡ s.hand → hand ≡ (handed how s).hand
handed_hand (Ok how) s hand is = is
handed_hand (Err e) s hand is = is

pub handed_expired : (how : Result Handed NoMemory) (s : SchedState) (rows : List Row) → rows ≡ s.expired → rows_left how rows ≡ (handed how s).expired
handed_expired (Ok how) s rows is = ap (λ (l : List Row). others_of l) is
handed_expired (Err e) s rows is = is

-- an advance of a scheduler, with its count, which is small
pub record Advanced (g : Settings) (n m : ℕ) (to : Result ℕ NoMemory) (p : SchedPart) (x : SchedPart) (j u : View) : Type 0 where
  pub made : IsMade g j (Advances g p.wheel (counted to (n - m))) u
  pub hand : p.hand ≡ ((state g u.front).scheds p.wheel).hand
  pub expired : x.expired.rows ≡ ((state g u.front).scheds p.wheel).expired
  pub few : IfOk to (λ at. (m ≤ n) × (n - m ≤ MOST_SLOTS))

pub advanced : (g : Settings) (n m : ℕ) (to : Result ℕ NoMemory) (p x : SchedPart) (j u : View) → g.slots ≤ MOST_SLOTS → is_held j.actors (Sched p.wheel) ≡ true
    → SchedStands g j.front p → IsAdvanced g j p.wheel to p.expired x.expired u → n ≡ length x.expired.rows → m ≡ length p.expired.rows → Advanced g n m to p x j u
advanced g n m (Ok to) p x j u high held has is now was =
    let w = p.wheel in
    let count : n - m ≡ length is.gained = difference n m p.expired.rows is.gained (now ∙ ap (λ (l : List Row). length l) is.expired) was in
    record {
      made = subst (λ k. IsMade g j (Advances g w (Ok (to, k))) u) (sym count) is.call;
      hand = has.hand ∙ sym (advance_hand g w (Ok (to, length is.gained)) j u held is.call);
      expired = is.expired ∙ (ap (λ l. l ++ is.gained) has.expired ∙ sym is.waits);
      few = advance_fits g w to n m p.expired x.expired j u high is now was;
    }
advanced g n m (Err e) p x j u high held has is now was = record {
  made = is.call;
  hand = has.hand ∙ sym (advance_hand g p.wheel (Err e) j u held is.call);
  expired = is.expired ∙ (has.expired ∙ sym (advance_still g p.wheel e j u held is.call));
  few = tt;
}

-- a process that has exited stays so in the front of a pass that a part is lent with
pub exited_lent : {X Y : Type 0} {table : TableId} {g : Settings} {d : Desk} {k : Kind X} {u : Kind Y} {n : ℕ} {f : List Entry} {x : X} {p : Pass} {own : Y} (process : ℕ)
    → IsDesk table g d → IsLent d k u n f x p own → (state g f).exited process ≡ true → (state (settings_of d) (front_of p)).exited process ≡ true
exited_lent {g = g} {f = f} {p = p} process desk lent exited =
    let later = lent.since.later in
    let on : state g (front_of p) ≡ run g (state g f) later = ap (state g) lent.since.grown ∙ state-append g f later in
    subst (λ s. (state s (front_of p)).exited process ≡ true) (sym desk.settings_is)
    (subst (λ (s : State). s.exited process ≡ true) (sym on) (exit_stays g process (state g f) later exited))

-- the first expired timer of a scheduler is handed over
pub hands : (g : Settings) (p : SchedPart) (expired : Row) (how : Result Handed NoMemory) (f h : List Entry) → SchedStands g f p
    → first_of p.expired.rows ≡ Some expired → Grows (beside g (Sched p.wheel) (MailOf expired.dest ∷ []) (HandsOver g p.wheel expired how)) f h
    → Grows (Hands g (beside g (Sched p.wheel)) p.wheel how) f h
hands g p expired how f h stands first grows = record {
  piece = grows.piece;
  grown = grows.grown;
  made = record {
    expired = expired;
    first = ap (λ (l : List Row). first_of l) (sym stands.expired) ∙ first;
    step = grows.made;
  };
}

-- the first expired timer of a scheduler that a mailbox is lent to: the front has it too, and it is one of the
-- scheduler's wheel
pub record IsFirst (d : Desk) (row : Row) (s : SchedPart) (process : ℕ) (p : Pass) : Type 0 where
  pub here : first_of ((state_of d p).scheds row.timer.wheel).expired ≡ Some row
  pub own : row.timer.wheel ≡ s.wheel
  pub holds : HoldsMailboxAndSched (settings_of d) (view_of p) row.timer.wheel process

pub first_lent : {d : Desk} {n : ℕ} {s old : SchedPart} {f : List Entry} {x : Mailbox} {p : Pass} {row : Row} → s ≡ old → IsLent d mails scheds n f x p s
    → first_of old.expired.rows ≡ Some row → IsFirst d row s x.process p
first_lent {d} {n} {s} {old} {f} {x} {p} {row} is lent first =
    let legal = lent.legal in
    let here : first_of ((state_of d p).scheds s.wheel).expired ≡ Some row =
    ap (λ (l : List Row). first_of l) (sym lent.own_stands.expired) ∙ (ap (λ (s : SchedPart). first_of s.expired.rows) is ∙ first) in
    let own : row.timer.wheel ≡ s.wheel = (first_placed (settings_of d) (front_of p) s.wheel row legal here).wheel in
    record {
      here = subst (λ m. first_of ((state_of d p).scheds m).expired ≡ Some row) (sym own) here;
      own = own;
      holds = subst (λ m. HoldsMailboxAndSched (settings_of d) (view_of p) m x.process) (sym own)
          (record { sched = lent.has_user; below = lent.own_stands.in_range; mail = lent.has_part });
    }

-- so it is handed over for that scheduler
pub handed_made : (g : Settings) (v u : View) (row : Row) (w : ℕ) (how : Result Handed NoMemory) → row.timer.wheel ≡ w → Legal g v.front
    → IsMadeIfOk g v (HandsOver g row.timer.wheel row) how u → IsMade g v (HandsOver g w row how) u
handed_made g v u row w how own legal made =
    subst (λ m. IsMade g v (HandsOver g m row how) u) own (if_ok_made g v (HandsOver g row.timer.wheel row) how u legal made)
