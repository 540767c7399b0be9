-- The steps by which an expired timer is handed over.

use Rattle.std.proofs.Common.{◌^◌, ◌≡◌, ℕ, Bool, true, false, ◌||◌, ◌+◌, ◌<◌, ◌≤◌, List, [], ◌∷◌, ◌++◌, Some, Ok, refl, sym, ap, subst, ◌∙◌, eq-eqb, arith}
use Rattle.ert_defs.specs.{Entries.{mark_entry, deliver_entry, drop_entry}, Laws.IsExpired, Legal.{Can, Legal, IsSlot}, Mails.{SchedState, first_of, message_of, message_in}, Settings.IsChecked, States.{State, next, state}, Timers.Row}
use Rattle.ert_defs.specs.{declared.entry.Actor.Actor, declared.entry.Actor.TheVariants.{Sched, MailOf}, declared.entry.Entry.Entry, declared.entry.Event.TheVariants.Deliver, declared.settings.Settings.Settings}
use Rattle.ert_defs.proofs.{ExpiredLists.{first_at, expired_timers}, Runs.legal_one_more}
use Rattle.ert_effects.specs.{MailCalls.handed_entries, declared.answers.Handed.Handed, declared.answers.Handed.TheVariants.{Put, Dropped}}
use Rattle.ert_laws.proofs.RowRanges.{first_placed}
use Rattle.ert_table.specs.{Held.is_held, Settlings.{HasRow, hit_entry, mailbox_actor, Settles}, Takes.{MayStep, Appends}, declared.carry.Settle.TheVariants.{Deliver as ToDeliver, Drop as ToDrop}, declared.view.View.View}
use Rattle.ert_table.proofs.Parts.{part_before, stepped, two_steps, held_on}
use Rattle.ert_laws.specs.Counts.{deliveries}
use Rattle.ert_mail.specs.{Mailboxes.{Mailbox, MailboxStands, HoldsMailboxAndSched, handed}, Steps.{IsHanded, with_expired}}
use Rattle.ert_mail.proofs.{Counts.deliveries_few, Standing.{deliveries_after, mails_before}}

pub scheds_before : (g : Settings) (v : View) (e : Entry) (w : View) (n : ℕ) → is_held v.actors (Sched n) ≡ true → (step : Appends g v e w)
    → (state g (v.front ++ step.between)).scheds n ≡ (state g v.front).scheds n
scheds_before g v e w n held step = part_before g v e w (Sched n) (λ (s : State). s.scheds n) (λ s e none. rw none refl) held step

-- a scheduler's look at an exit leaves what it and the process have
pub sched_marked : (g : Settings) (v u : View) (n p : ℕ) (was : Bool) → is_held v.actors (Sched n) ≡ true
    → Appends g v (mark_entry (Sched n) p false was) u → (state g u.front).scheds n ≡ (state g v.front).scheds n
sched_marked g v u n p was held step =
    let e : Entry = mark_entry (Sched n) p false was in
    let same : (s : State) → (next g s e).scheds n ≡ s.scheds n = λ s. rw (eq-eqb n n refl) refl in
    ap (λ (s : State). s.scheds n) (stepped g v e u step) ∙ (same (state g (v.front ++ step.between)) ∙ scheds_before g v e u n held step)

pub mails_marked : (g : Settings) (v u : View) (n p : ℕ) (was : Bool) → is_held v.actors (MailOf p) ≡ true
    → Appends g v (mark_entry (Sched n) p false was) u → (state g u.front).mails p ≡ (state g v.front).mails p
mails_marked g v u n p was held step =
    let e : Entry = mark_entry (Sched n) p false was in
    ap (λ (s : State). s.mails p) (stepped g v e u step) ∙ mails_before g v e u p held step

-- a process that was found to have exited has
exited_or : (exited b : Bool) → true ≡ exited → (exited || b) ≡ true
exited_or exited b is = rw (← is) refl

pub exit_seen : (g : Settings) (v u : View) (by : Actor) (p : ℕ) → Appends g v (mark_entry by p false true) u → (state g u.front).exited p ≡ true
exit_seen g v u by p step =
    let e : Entry = mark_entry by p false true in
    let can : Can g (state g (v.front ++ step.between)) e = ((legal_one_more g (v.front ++ step.between) e).0 (subst (Legal g) step.grown step.legal)).1 in
    ap (λ (s : State). s.exited p) (stepped g v e u step) ∙ exited_or ((state g (v.front ++ step.between)).exited p) _ can.found

-- what is so of the first expired timer of a scheduler, where a pass that holds the scheduler knows it
pub record IsReady (g : Settings) (u : View) (expired : Row) : Type 0 where
  pub holds : HoldsMailboxAndSched g u expired.timer.wheel expired.dest
  pub first : first_of ((state g u.front).scheds expired.timer.wheel).expired ≡ Some expired
  pub waits : IsExpired (state g u.front) expired.timer.wheel expired
  pub place : IsSlot g expired.timer.wheel expired.timer.slot
  pub dest : expired.dest < g.processes

pub ready : (g : Settings) (v u : View) (expired : Row) (was : Bool) → HoldsMailboxAndSched g v expired.timer.wheel expired.dest
    → first_of ((state g v.front).scheds expired.timer.wheel).expired ≡ Some expired
    → Appends g v (mark_entry (Sched expired.timer.wheel) expired.dest false was) u → IsReady g u expired
ready g v u expired was holds first step =
    let n = expired.timer.wheel in
    let e : Entry = mark_entry (Sched n) expired.dest false was in
    let now : first_of ((state g u.front).scheds n).expired ≡ Some expired =
    ap (λ (s : SchedState). first_of s.expired) (sched_marked g v u n expired.dest was holds.sched step) ∙ first in
    let placed = first_placed g u.front n expired step.legal now in
    record {
      holds = record {
        sched = held_on g v e u (Sched n) step holds.sched;
        below = holds.below;
        mail = held_on g v e u (MailOf expired.dest) step holds.mail;
      };
      first = now;
      waits = first_at (IsExpired (state g u.front) n) ((state g u.front).scheds n).expired expired now (expired_timers g u.front n step.legal).each;
      place = placed.place;
      dest = placed.dest;
    }

pub has_row : (g : Settings) (u : View) (expired : Row) → IsReady g u expired → HasRow (state g u.front) expired.timer expired.deadline
has_row g u expired ready = record { row = expired; stands = ready.waits.stands; due = refl }

-- what is recorded where its message is put
delivery : (g : Settings) (u : View) (expired : Row) → IsReady g u expired
    → hit_entry g (state g u.front) (Sched expired.timer.wheel) expired.timer expired.deadline ToDeliver ≡ deliver_entry expired.timer.wheel expired.dest expired.timer
delivery g u expired ready =
    ap (λ row. record { by = Sched expired.timer.wheel; with = mailbox_actor row; event = Deliver expired.timer }) ready.waits.stands

pub may_deliver : (g : Settings) (u : View) (expired : Row) → IsReady g u expired
    → MayStep g u (hit_entry g (state g u.front) (Sched expired.timer.wheel) expired.timer expired.deadline ToDeliver)
may_deliver g u expired ready =
    subst (MayStep g u) (sym (delivery g u expired ready)) (record {
      ours = (ready.holds.sched, ready.holds.mail);
      keeps = (refl, ready.dest, ready.place);
      known = (record { row = expired; first = ready.first; named = refl }, refl);
    })

pub may_drop : (g : Settings) (u : View) (expired : Row) → IsReady g u expired → (state g u.front).exited expired.dest ≡ true
    → MayStep g u (drop_entry expired.timer.wheel expired.timer)
may_drop g u expired ready exited = record {
  ours = ready.holds.sched;
  keeps = (refl, refl, ready.place);
  known = (record { row = expired; first = ready.first; named = refl }, exited);
}

-- one that expired is delivered or dropped without fail
delivers : (g : Settings) (u w : View) (expired : Row) (hit : Bool) → IsReady g u expired
    → Settles g u (Sched expired.timer.wheel) expired.timer expired.deadline ToDeliver hit w
    → Appends g u (deliver_entry expired.timer.wheel expired.dest expired.timer) w
delivers g u w expired true ready settled = subst (λ e. Appends g u e w) (delivery g u expired ready) settled
delivers g u w expired false ready missed = absurd missed

drops : (g : Settings) (u w : View) (expired : Row) (hit : Bool) → Settles g u (Sched expired.timer.wheel) expired.timer expired.deadline ToDrop hit w
    → Appends g u (drop_entry expired.timer.wheel expired.timer) w
drops g u w expired true settled = settled
drops g u w expired false missed = absurd missed

message_first : (rows : List Row) (row : Row) → first_of rows ≡ Some row → message_in rows ≡ message_of row ∷ []
message_first [] row is = absurd cc
message_first (r ∷ rows) row is = let same : r ≡ row = cc in ap (λ r. message_of r ∷ []) same

pub put_handed : (g : Settings) (v u w : View) (expired : Row) (hit : Bool) → HoldsMailboxAndSched g v expired.timer.wheel expired.dest
    → first_of ((state g v.front).scheds expired.timer.wheel).expired ≡ Some expired
    → Appends g v (mark_entry (Sched expired.timer.wheel) expired.dest false false) u
    → Settles g u (Sched expired.timer.wheel) expired.timer expired.deadline ToDeliver hit w → IsHanded g v expired Put w
put_handed g v u w expired hit holds first mark settled =
    let n = expired.timer.wheel in
    let p = expired.dest in
    let d : Entry = mark_entry (Sched n) p false false in
    let e : Entry = deliver_entry n p expired.timer in
    let now = ready g v u expired false holds first mark in
    let step = delivers g u w expired hit now settled in
    let at : State = state g (u.front ++ step.between) in
    let sched_at : at.scheds n ≡ (state g u.front).scheds n = scheds_before g u e w n now.holds.sched step in
    let mail_at : at.mails p ≡ (state g u.front).mails p = mails_before g u e w p now.holds.mail step in
    let sched_is : (s : State) → (next g s e).scheds n ≡ handed (Ok Put) (s.scheds n) = λ s. rw (eq-eqb n n refl) refl in
    let mail_is : (s : State) → (next g s e).mails p ≡ record { queue = (s.mails p).queue ++ message_in (s.scheds n).expired; monitors = (s.mails p).monitors; next = (s.mails p).next } =
    λ s. rw (eq-eqb p p refl) refl in
    let message : message_in (at.scheds n).expired ≡ message_of expired ∷ [] =
    ap (λ (s : SchedState). message_in s.expired) sched_at ∙ message_first ((state g u.front).scheds n).expired expired now.first in
    record {
      call = two_steps g v d u e w mark step;
      sched = ap (λ (s : State). s.scheds n) (stepped g u e w step)
          ∙ (sched_is at ∙ ap (handed (Ok Put)) (sched_at ∙ sched_marked g v u n p false holds.sched mark));
      mails = ap (λ (s : State). s.mails p) (stepped g u e w step)
          ∙ (mail_is at
          ∙ (ap (λ message. record { queue = (at.mails p).queue ++ message; monitors = (at.mails p).monitors; next = (at.mails p).next }) message
          ∙ ap (with_expired Put expired) (mail_at ∙ mails_marked g v u n p false holds.mail mark)));
    }

pub drop_handed : (g : Settings) (v u w : View) (expired : Row) (hit : Bool) → HoldsMailboxAndSched g v expired.timer.wheel expired.dest
    → Appends g v (mark_entry (Sched expired.timer.wheel) expired.dest false true) u
    → Settles g u (Sched expired.timer.wheel) expired.timer expired.deadline ToDrop hit w → IsHanded g v expired Dropped w
drop_handed g v u w expired hit holds mark settled =
    let n = expired.timer.wheel in
    let p = expired.dest in
    let d : Entry = mark_entry (Sched n) p false true in
    let e : Entry = drop_entry n expired.timer in
    let step = drops g u w expired hit settled in
    let held = held_on g v d u (Sched n) mark holds.sched in
    let at : State = state g (u.front ++ step.between) in
    let sched_is : (s : State) → (next g s e).scheds n ≡ handed (Ok Dropped) (s.scheds n) = λ s. rw (eq-eqb n n refl) refl in
    record {
      call = two_steps g v d u e w mark step;
      sched = ap (λ (s : State). s.scheds n) (stepped g u e w step)
          ∙ (sched_is at ∙ ap (handed (Ok Dropped)) (scheds_before g u e w n held step ∙ sched_marked g v u n p true holds.sched mark));
      mails = ap (λ (s : State). s.mails p) (stepped g u e w step)
          ∙ (mails_before g u e w p (held_on g v d u (MailOf p) mark holds.mail) step ∙ mails_marked g v u n p true holds.mail mark);
    }

-- a mailbox stands after a timer was handed over to its process
abbrev counted : Handed → ℕ
counted Put = 1
counted Dropped = 0

handed_count : (n p : ℕ) (expired : Row) (how : Handed) → expired.dest ≡ p → deliveries p (handed_entries n expired how) ≡ counted how
handed_count n p expired Put same = rw same (rw (eq-eqb p p refl) refl)
handed_count n p expired Dropped same = refl

pub stands_handed : (g : Settings) (v w : View) (expired : Row) (how : Handed) (m n now : Mailbox) → m ≡ now → expired.dest ≡ now.process
    → is_held v.actors (MailOf now.process) ≡ true → MailboxStands g v.front now → IsHanded g v expired how w → n.process ≡ m.process
    → n.held ≡ with_expired how expired m.held → n.delivered ≡ m.delivered + counted how → MailboxStands g w.front n
stands_handed g v w expired how m n now is same held standing steps process has delivered =
    let p = m.process in
    let dest : expired.dest ≡ p = subst (λ (m : Mailbox). expired.dest ≡ m.process) (sym is) same in
    let stands = subst (MailboxStands g v.front) (sym is) standing in
    let mails : (state g w.front).mails p ≡ with_expired how expired ((state g v.front).mails p) =
    subst (λ p. (state g w.front).mails p ≡ with_expired how expired ((state g v.front).mails p)) dest steps.mails in
    let count = deliveries_after g v (handed_entries expired.timer.wheel expired how) w p
    (subst (λ (m : Mailbox). is_held v.actors (MailOf m.process) ≡ true) (sym is) held) steps.call in
    record {
      in_range = rw process stands.in_range;
      held = has ∙ (ap (with_expired how expired) stands.held ∙ (sym mails ∙ ap (λ p. (state g w.front).mails p) (sym process)));
      delivered = delivered
          ∙ (ap (λ d. d + counted how) stands.delivered
          ∙ (ap (λ d. deliveries p v.front + d) (sym (handed_count expired.timer.wheel p expired how dest))
          ∙ (sym count ∙ ap (λ p. deliveries p w.front) (sym process))));
    }

-- one more is counted in 64 bits
pub count_fits : (g : Settings) (v w : View) (expired : Row) (m : Mailbox) → IsChecked g → expired.dest ≡ m.process
    → is_held v.actors (MailOf m.process) ≡ true → MailboxStands g v.front m → IsHanded g v expired Put w → m.delivered + 1 ≤ 2 ^ 63
count_fits g v w expired m checked dest held stands steps =
    let p = m.process in
    let count = deliveries_after g v (handed_entries expired.timer.wheel expired Put) w p held steps.call in
    omega (arith, stands.delivered, count, handed_count expired.timer.wheel p expired Put dest, deliveries_few g w.front p stands.in_range checked steps.call.legal)
