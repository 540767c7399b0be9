-- Parts that were lent to a call come back, one after the other.

use Rattle.std.proofs.Common.{◌≡◌, ℕ, ◌<◌, Bool, true, false, List, [], ◌∷◌, length, slice_index_or, refl, sym, subst, ◌∙◌, eqb-true, eq-eqb}
use Rattle.std.specs.Prelude.{slice_set, nat_eq, ◌≢◌}
use Rattle.std.proofs.lemmas.{Grind.get_or-set_at, List.{get_or-set_other, length-set}}
use Rattle.ert_clock.specs.Shown.{Shown, ClockStands}
use Rattle.ert_defs.specs.{Actors.same_actor, declared.entry.Actor.Actor, declared.entry.Actor.TheVariants.{Keeper, Wheel, Inbox, Sched, MailOf, Caller}, declared.entry.Entry.Entry, declared.settings.Settings.Settings}
use Rattle.ert_mail.specs.{Inboxes.{Waiting, InboxStands}, Mailboxes.{Mailbox, MailboxStands as MailStands}}
use Rattle.ert_table.specs.Held.{is_held}
use Rattle.ert_timers.specs.{Parts.{Part, PartStands as WheelStands}, SchedParts.SchedStands, declared.sched_part.SchedPart.SchedPart}
use Rattle.ert_world.specs.Parts.{AllParts, AreOrdered, Stand}

-- what holds of the part at a place after one was replaced, by whether it is that
pub at_place : {X : Type 0} (P : X → Type 0) (xs : List X) (i j : ℕ) (x d : X) → i < length xs → (j ≡ i → P x) → (j ≢ i → P (slice_index_or xs j d))
    → P (slice_index_or (slice_set xs i x) j d)
at_place P xs i j x d low same other = by_test (nat_eq j i) refl
  where
    by_test : (b : Bool) → nat_eq j i ≡ b → P (slice_index_or (slice_set xs i x) j d)
    by_test true is =
        let one : j ≡ i = eqb-true j i is in
        subst P (sym (get_or-set_at xs i j x d one low)) (same one)
    by_test false is =
        let apart : j ≢ i = λ (e : j ≡ i). let clash : true ≡ false = sym (eq-eqb j i e) ∙ is in cc in
        subst P (sym (get_or-set_other xs i j x d apart)) (other apart)

-- parts in order in which one was replaced that stands itself: it is lent no more
ordered_back : {X : Type 0} (number : X → ℕ) (stands : X → Type 0) (actor : ℕ → Actor) (lent : List Actor) (count : ℕ) (xs : List X)
    → ((m n : ℕ) → m ≢ n → same_actor (actor m) (actor n) ≡ false) → (i : ℕ) (x : X) → i < count → number x ≡ i → stands x
    → AreOrdered number stands actor (actor i ∷ lent) count xs → AreOrdered number stands actor lent count (slice_set xs i x)
ordered_back number stands actor lent count xs apart i x low is stand ordered =
    let within : i < length xs = rw ordered.counted low in
    record {
      counted = length-set xs i x ∙ ordered.counted;
      named = λ j d below. at_place (λ y. number y ≡ j) xs i j x d within (λ one. is ∙ sym one) (λ other. ordered.named j d below);
      stand = λ j d below left. at_place stands xs i j x d within (λ one. stand)
          (λ other. ordered.stand j d below (lent_more actor lent i j (apart i j (λ e. other (sym e))) left));
    }
  where
    lent_more : (actor : ℕ → Actor) (lent : List Actor) (i j : ℕ) → same_actor (actor i) (actor j) ≡ false → is_held lent (actor j) ≡ false
        → is_held (actor i ∷ lent) (actor j) ≡ false
    lent_more actor lent i j one other = rw one other

-- of parts that all stand any may be lent
ordered_lend : {X : Type 0} (number : X → ℕ) (stands : X → Type 0) (actor : ℕ → Actor) (lent : List Actor) (count : ℕ) (xs : List X)
    → AreOrdered number stands actor [] count xs → AreOrdered number stands actor lent count xs
ordered_lend number stands actor lent count xs ordered = record {
  counted = ordered.counted;
  named = ordered.named;
  stand = λ i d low left. ordered.stand i d low refl;
}

pub lend : (g : Settings) (h : List Entry) (lent : List Actor) (parts : AllParts) → Stand g h [] parts → Stand g h lent parts
lend g h lent parts stand = record {
  legal = stand.legal;
  keeper = λ left. stand.keeper refl;
  wheels = ordered_lend (λ (p : Part). p.number) (WheelStands g h) Wheel lent g.schedulers parts.wheels stand.wheels;
  inboxes = ordered_lend (λ (q : Waiting). q.wheel) (InboxStands g h) Inbox lent g.schedulers parts.inboxes stand.inboxes;
  mails = ordered_lend (λ (m : Mailbox). m.process) (MailStands g h) MailOf lent g.processes parts.mails stand.mails;
  scheds = ordered_lend (λ (p : SchedPart). p.wheel) (SchedStands g h) Sched lent g.schedulers parts.scheds stand.scheds;
}

-- parts of another kind aren't lent by this actor
ordered_still : {X : Type 0} (number : X → ℕ) (stands : X → Type 0) (actor : ℕ → Actor) (a : Actor) (lent : List Actor) (count : ℕ) (xs : List X)
    → ((n : ℕ) → same_actor a (actor n) ≡ false) → AreOrdered number stands actor (a ∷ lent) count xs → AreOrdered number stands actor lent count xs
ordered_still number stands actor a lent count xs apart ordered = record {
  counted = ordered.counted;
  named = ordered.named;
  stand = λ i d low left. ordered.stand i d low (rw (apart i) left);
}

numbers_apart : (m n : ℕ) → m ≢ n → nat_eq m n ≡ false
numbers_apart m n ne = by_test (nat_eq m n) refl
  where
    by_test : (b : Bool) → nat_eq m n ≡ b → b ≡ false
    by_test true is = absurd (ne (eqb-true m n is))
    by_test false is = refl

-- a wheel that stands comes back
pub wheel_back : (g : Settings) (h : List Entry) (lent : List Actor) (parts : AllParts) (i : ℕ) (x : Part) → i < g.schedulers → x.number ≡ i
    → WheelStands g h x → Stand g h (Wheel i ∷ lent) parts → Stand g h lent (record parts { wheels = slice_set parts.wheels i x })
wheel_back g h lent parts i x low is stands stand = record {
  legal = stand.legal;
  keeper = stand.keeper;
  wheels = ordered_back (λ (p : Part). p.number) (WheelStands g h) Wheel lent g.schedulers parts.wheels numbers_apart i x low is stands stand.wheels;
  inboxes = ordered_still (λ (q : Waiting). q.wheel) (InboxStands g h) Inbox (Wheel i) lent g.schedulers parts.inboxes (λ n. refl) stand.inboxes;
  mails = ordered_still (λ (m : Mailbox). m.process) (MailStands g h) MailOf (Wheel i) lent g.processes parts.mails (λ n. refl) stand.mails;
  scheds = ordered_still (λ (p : SchedPart). p.wheel) (SchedStands g h) Sched (Wheel i) lent g.schedulers parts.scheds (λ n. refl) stand.scheds;
}

-- an inbox that stands comes back
pub inbox_back : (g : Settings) (h : List Entry) (lent : List Actor) (parts : AllParts) (i : ℕ) (x : Waiting) → i < g.schedulers → x.wheel ≡ i
    → InboxStands g h x → Stand g h (Inbox i ∷ lent) parts → Stand g h lent (record parts { inboxes = slice_set parts.inboxes i x })
inbox_back g h lent parts i x low is stands stand = record {
  legal = stand.legal;
  keeper = stand.keeper;
  wheels = ordered_still (λ (p : Part). p.number) (WheelStands g h) Wheel (Inbox i) lent g.schedulers parts.wheels (λ n. refl) stand.wheels;
  inboxes = ordered_back (λ (q : Waiting). q.wheel) (InboxStands g h) Inbox lent g.schedulers parts.inboxes numbers_apart i x low is stands stand.inboxes;
  mails = ordered_still (λ (m : Mailbox). m.process) (MailStands g h) MailOf (Inbox i) lent g.processes parts.mails (λ n. refl) stand.mails;
  scheds = ordered_still (λ (p : SchedPart). p.wheel) (SchedStands g h) Sched (Inbox i) lent g.schedulers parts.scheds (λ n. refl) stand.scheds;
}

-- a mailbox that stands comes back
pub mail_back : (g : Settings) (h : List Entry) (lent : List Actor) (parts : AllParts) (i : ℕ) (x : Mailbox) → i < g.processes → x.process ≡ i
    → MailStands g h x → Stand g h (MailOf i ∷ lent) parts → Stand g h lent (record parts { mails = slice_set parts.mails i x })
mail_back g h lent parts i x low is stands stand = record {
  legal = stand.legal;
  keeper = stand.keeper;
  wheels = ordered_still (λ (p : Part). p.number) (WheelStands g h) Wheel (MailOf i) lent g.schedulers parts.wheels (λ n. refl) stand.wheels;
  inboxes = ordered_still (λ (q : Waiting). q.wheel) (InboxStands g h) Inbox (MailOf i) lent g.schedulers parts.inboxes (λ n. refl) stand.inboxes;
  mails = ordered_back (λ (m : Mailbox). m.process) (MailStands g h) MailOf lent g.processes parts.mails numbers_apart i x low is stands stand.mails;
  scheds = ordered_still (λ (p : SchedPart). p.wheel) (SchedStands g h) Sched (MailOf i) lent g.schedulers parts.scheds (λ n. refl) stand.scheds;
}

-- a scheduler's part that stands comes back
pub sched_back : (g : Settings) (h : List Entry) (lent : List Actor) (parts : AllParts) (i : ℕ) (x : SchedPart) → i < g.schedulers → x.wheel ≡ i
    → SchedStands g h x → Stand g h (Sched i ∷ lent) parts → Stand g h lent (record parts { scheds = slice_set parts.scheds i x })
sched_back g h lent parts i x low is stands stand = record {
  legal = stand.legal;
  keeper = stand.keeper;
  wheels = ordered_still (λ (p : Part). p.number) (WheelStands g h) Wheel (Sched i) lent g.schedulers parts.wheels (λ n. refl) stand.wheels;
  inboxes = ordered_still (λ (q : Waiting). q.wheel) (InboxStands g h) Inbox (Sched i) lent g.schedulers parts.inboxes (λ n. refl) stand.inboxes;
  mails = ordered_still (λ (m : Mailbox). m.process) (MailStands g h) MailOf (Sched i) lent g.processes parts.mails (λ n. refl) stand.mails;
  scheds = ordered_back (λ (p : SchedPart). p.wheel) (SchedStands g h) Sched lent g.schedulers parts.scheds numbers_apart i x low is stands stand.scheds;
}

-- the clock's part that stands comes back
pub keeper_back : (g : Settings) (h : List Entry) (lent : List Actor) (parts : AllParts) (x : Shown)
    → ClockStands g h x → Stand g h (Keeper ∷ lent) parts → Stand g h lent (record parts { keeper = x })
keeper_back g h lent parts x stands stand = record {
  legal = stand.legal;
  keeper = λ left. stands;
  wheels = ordered_still (λ (p : Part). p.number) (WheelStands g h) Wheel Keeper lent g.schedulers parts.wheels (λ n. refl) stand.wheels;
  inboxes = ordered_still (λ (q : Waiting). q.wheel) (InboxStands g h) Inbox Keeper lent g.schedulers parts.inboxes (λ n. refl) stand.inboxes;
  mails = ordered_still (λ (m : Mailbox). m.process) (MailStands g h) MailOf Keeper lent g.processes parts.mails (λ n. refl) stand.mails;
  scheds = ordered_still (λ (p : SchedPart). p.wheel) (SchedStands g h) Sched Keeper lent g.schedulers parts.scheds (λ n. refl) stand.scheds;
}

-- a caller has no part
pub caller_back : (g : Settings) (h : List Entry) (lent : List Actor) (parts : AllParts) (n : ℕ) → Stand g h (Caller n ∷ lent) parts → Stand g h lent parts
caller_back g h lent parts n stand = record {
  legal = stand.legal;
  keeper = stand.keeper;
  wheels = ordered_still (λ (p : Part). p.number) (WheelStands g h) Wheel (Caller n) lent g.schedulers parts.wheels (λ n. refl) stand.wheels;
  inboxes = ordered_still (λ (q : Waiting). q.wheel) (InboxStands g h) Inbox (Caller n) lent g.schedulers parts.inboxes (λ n. refl) stand.inboxes;
  mails = ordered_still (λ (m : Mailbox). m.process) (MailStands g h) MailOf (Caller n) lent g.processes parts.mails (λ n. refl) stand.mails;
  scheds = ordered_still (λ (p : SchedPart). p.wheel) (SchedStands g h) Sched (Caller n) lent g.schedulers parts.scheds (λ n. refl) stand.scheds;
}
