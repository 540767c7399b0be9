-- Two states that differ in names alone still do so after the same event, told of each by its names.

use Rattle.std.proofs.Common.{◌≡◌, ℕ, ℤ, Bool, true, false, cond, List, [], ◌∷◌, ◌++◌, map, filter, Option, refl, sym, ap, ◌∙◌, subst}
use Rattle.ert_defs.proofs.ExpiredTimers.{cond_same}
use Rattle.ert_defs.specs.{Actors.{same_actor, has_actor}, Clocks.{Clock, clock_after}, Entries.{entry_by, probe_entry}, Mails.{MailState, SchedState, mail_after, inbox_after, sched_after, changes_of, is_news, told_of, without}}
use Rattle.ert_defs.specs.{States.{State, next, look_after, exited_after}, Timers.{Row, same_timer, rows_after, status_after, settled_as, handed_as}, declared.entry.Act.Act, declared.entry.Actor.Actor}
use Rattle.ert_defs.specs.{declared.entry.Actor.TheVariants.{Keeper, Wheel, Inbox, Sched, MailOf}, declared.entry.Entry.Entry, declared.entry.Event.Event, declared.entry.Event.TheVariants.{Tick, Shift, Look, Off, Peek, Cancel, Expire}}
use Rattle.ert_defs.specs.{declared.entry.Event.TheVariants.{Orphan, Deliver, Drop, Mark, Advanced, Ask, Pick, Answer, Take, Unwatch, Watch, Tell}, declared.mail.Mail.Mail, declared.mail.Mail.TheVariants.Change}
use Rattle.ert_defs.specs.{declared.mail.Monitor.Monitor, declared.mail.Request.Request, declared.settings.OffsetState.OffsetState, declared.settings.Reading.Reading, declared.settings.Settings.Settings, declared.timer.Status.Status}
use Rattle.ert_defs.specs.{declared.timer.Status.TheVariants.{Expired, Delivered, Cancelled, Orphaned, Dropped}, declared.timer.TimerRef.TimerRef}
use Rattle.ert_ops.proofs.Shown.{Names, AreNames, Pairs, Both, SameRow, SameRequest, SameMail, SameMails, SameSched, Shows, both_if, pairs-append, pairs_others, row_both, messages_same, answers_same, with_row_same}

-- an event of each state, the same but for the names of timers; a start adds a name and is none of these
pub data Step (R : Names) : Type 0 where
  as_tick : Reading → Act → ℤ → Step R
  as_shift : ℤ → OffsetState → Step R
  as_look : ℤ → Step R
  as_off : ℤ → OffsetState → Step R
  as_peek : (t n : TimerRef) → R t n → Option ℕ → Step R
  as_cancel : (t n : TimerRef) → R t n → Option ℕ → Step R
  as_expire : (t n : TimerRef) → R t n → Step R
  as_orphan : (t n : TimerRef) → R t n → Step R
  as_deliver : (t n : TimerRef) → R t n → Step R
  as_drop : (t n : TimerRef) → R t n → Step R
  as_mark : ℕ → Bool → Bool → Step R
  as_advanced : ℕ → ℕ → Step R
  as_ask : ℕ → (q k : Request) → SameRequest R q k → Step R
  as_pick : ℕ → (a b : Option Request) → Both (SameRequest R) a b → Step R
  as_answer : ℕ → Option ℕ → Step R
  as_take : ℕ → Option Mail → Option Mail → Step R
  as_unwatch : ℕ → ℕ → Bool → Step R
  as_watch : ℕ → ℕ → ℤ → Step R
  as_tell : ℕ → ℤ → Step R

-- the event of the first state, and of the second
abbrev pub first : (R : Names) → Step R → Event
first R (as_tick r act now) = Tick r act now
first R (as_shift x state) = Shift x state
first R (as_look now) = Look now
first R (as_off x state) = Off x state
first R (as_peek t n is left) = Peek t left
first R (as_cancel t n is left) = Cancel t left
first R (as_expire t n is) = Expire t
first R (as_orphan t n is) = Orphan t
first R (as_deliver t n is) = Deliver t
first R (as_drop t n is) = Drop t
first R (as_mark p exits was) = Mark p exits was
first R (as_advanced w to) = Advanced w to
first R (as_ask w q k is) = Ask w q
first R (as_pick w a b is) = Pick w a
first R (as_answer w left) = Answer w left
first R (as_take p a b) = Take p a
first R (as_unwatch p m was) = Unwatch p m was
first R (as_watch p m x) = Watch p m x
first R (as_tell p x) = Tell p x

abbrev pub second : (R : Names) → Step R → Event
second R (as_tick r act now) = Tick r act now
second R (as_shift x state) = Shift x state
second R (as_look now) = Look now
second R (as_off x state) = Off x state
second R (as_peek t n is left) = Peek n left
second R (as_cancel t n is left) = Cancel n left
second R (as_expire t n is) = Expire n
second R (as_orphan t n is) = Orphan n
second R (as_deliver t n is) = Deliver n
second R (as_drop t n is) = Drop n
second R (as_mark p exits was) = Mark p exits was
second R (as_advanced w to) = Advanced w to
second R (as_ask w q k is) = Ask w k
second R (as_pick w a b is) = Pick w b
second R (as_answer w left) = Answer w left
second R (as_take p a b) = Take p b
second R (as_unwatch p m was) = Unwatch p m was
second R (as_watch p m x) = Watch p m x
second R (as_tell p x) = Tell p x

clock_same : (R : Names) (x : Step R) (g : Settings) (k : Clock) → clock_after g k (first R x) ≡ clock_after g k (second R x)
clock_same R (as_tick r act now) g k = refl
clock_same R _ g k = refl

look_same : (R : Names) (x : Step R) (last : ℤ) → look_after last (first R x) ≡ look_after last (second R x)
look_same R (as_look now) last = refl
look_same R _ last = refl

exited_same : (R : Names) (x : Step R) (p : ℕ) (b : Bool) → exited_after p b (first R x) ≡ exited_after p b (second R x)
exited_same R (as_mark q exits was) p b = refl
exited_same R _ p b = refl

rows_same : (R : Names) (x : Step R) (g : Settings) (at other : ℤ) (w : ℕ) (xs ys : List Row) → Pairs (SameRow R) xs ys
    → Pairs (SameRow R) (rows_after g at w xs (first R x)) (rows_after g other w ys (second R x))
rows_same R (as_look now) g at other w xs ys h = h
rows_same R _ g at other w xs ys h = h

inbox_same : (R : Names) (x : Step R) (xs ys : List Request) → Pairs (SameRequest R) xs ys
    → Pairs (SameRequest R) (inbox_after xs (first R x)) (inbox_after ys (second R x))
inbox_same R (as_ask w q k is) xs ys h = pairs-append (SameRequest R) xs ys (q ∷ []) (k ∷ []) h (is, tt)
inbox_same R (as_pick w a b is) xs ys h = pairs_others (SameRequest R) xs ys h
inbox_same R _ xs ys h = h

-- the schedulers of both states
abbrev AreScheds : Names → (ℕ → SchedState) → (ℕ → SchedState) → Type 0
AreScheds R s c = (w : ℕ) → SameSched R (s w) (c w)

changes_at : (R : Names) (x : ℤ) (ms : List Monitor)
    → Pairs (SameMail R) (map (λ (m : Monitor). Change m.number x) ms) (map (λ (m : Monitor). Change m.number x) ms)
changes_at R x [] = tt
changes_at R x (m ∷ ms) = ((refl, refl), changes_at R x ms)

changes_same : (R : Names) (x : ℤ) (ms : List Monitor) → Pairs (SameMail R) (changes_of x ms) (changes_of x ms)
changes_same R x ms = changes_at R x (filter (is_news x) ms)

mail_same : (R : Names) → AreNames R → (x : Step R) (scheds others : ℕ → SchedState) (m k : MailState) → AreScheds R scheds others
    → SameMails R m k → SameMails R (mail_after scheds m (first R x)) (mail_after others k (second R x))
mail_same R names (as_deliver t n is) scheds others m k are h = record {
  queue = pairs-append (SameMail R) m.queue k.queue _ _ h.queue
      (messages_same R (scheds t.wheel).expired (others n.wheel).expired
      (subst (λ (w : ℕ). Pairs (SameRow R) (scheds t.wheel).expired (others w).expired) (sym (names.wheel t n is)) (are t.wheel).expired));
  monitors = h.monitors;
  next = h.next;
}
mail_same R names (as_answer w left) scheds others m k are h = record {
  queue = pairs-append (SameMail R) m.queue k.queue _ _ h.queue (answers_same R (scheds w).hand (others w).hand left (are w).hand);
  monitors = h.monitors;
  next = h.next;
}
mail_same R names (as_take p a b) scheds others m k are h =
    record { queue = pairs_others (SameMail R) m.queue k.queue h.queue; monitors = h.monitors; next = h.next }
mail_same R names (as_unwatch p n was) scheds others m k are h =
    record { queue = h.queue; monitors = ap (λ (ms : List Monitor). without n ms) h.monitors; next = h.next }
mail_same R names (as_watch p n x) scheds others m k are h = record {
  queue = h.queue;
  monitors = ap (λ (ms : List Monitor). ms ++ (record { number = n; told = x }) ∷ []) h.monitors;
  next = refl;
}
mail_same R names (as_tell p x) scheds others m k are h = record {
  queue = pairs-append (SameMail R) m.queue k.queue _ _ h.queue
      (subst (λ (ms : List Monitor). Pairs (SameMail R) (changes_of x m.monitors) (changes_of x ms)) h.monitors (changes_same R x m.monitors));
  monitors = ap (λ (ms : List Monitor). told_of x ms) h.monitors;
  next = h.next;
}
mail_same R names _ scheds others m k are h = h

sched_same : (R : Names) → AreNames R → (x : Step R) (rows others : ℕ → List Row) (a b : SchedState)
    → ((w : ℕ) → Pairs (SameRow R) (rows w) (others w)) → SameSched R a b
    → SameSched R (sched_after rows a (first R x)) (sched_after others b (second R x))
sched_same R names (as_peek t n is left) rows others a b are h = record { hand = h.hand; expired = h.expired }
sched_same R names (as_cancel t n is left) rows others a b are h = record { hand = h.hand; expired = h.expired }
sched_same R names (as_expire t n is) rows others a b are h = record {
  hand = h.hand;
  expired = with_row_same R a.expired b.expired _ _ h.expired
      (row_both R names t n is (rows t.wheel) (others n.wheel)
      (subst (λ (w : ℕ). Pairs (SameRow R) (rows t.wheel) (others w)) (sym (names.wheel t n is)) (are t.wheel)));
}
sched_same R names (as_deliver t n is) rows others a b are h =
    record { hand = h.hand; expired = pairs_others (SameRow R) a.expired b.expired h.expired }
sched_same R names (as_drop t n is) rows others a b are h =
    record { hand = h.hand; expired = pairs_others (SameRow R) a.expired b.expired h.expired }
sched_same R names (as_pick w p q is) rows others a b are h = record { hand = is; expired = h.expired }
sched_same R names (as_answer w left) rows others a b are h = record { hand = tt; expired = h.expired }
sched_same R names _ rows others a b are h = h

-- one of two references has a name of the other's
moved_same : (R : Names) → AreNames R → (t n r m : TimerRef) → R t n → R r m → (move : Option Status → Option Status) (x y : Option Status) → x ≡ y
    → cond (same_timer t r) (move x) x ≡ cond (same_timer n m) (move y) y
moved_same R names t n r m is named move x y same =
    let one : same_timer n m ≡ same_timer t r = names.same t n r m is named in
    cc

status_same : (R : Names) → AreNames R → (x : Step R) (r n : TimerRef) (b : Bool) (p q : Option Status) → R r n → p ≡ q
    → status_after r b p (first R x) ≡ status_after n b q (second R x)
status_same R names (as_cancel t m is left) r n b p q named same = moved_same R names t m r n is named (settled_as Cancelled) p q same
status_same R names (as_expire t m is) r n b p q named same = moved_same R names t m r n is named (settled_as Expired) p q same
status_same R names (as_orphan t m is) r n b p q named same = moved_same R names t m r n is named (settled_as Orphaned) p q same
status_same R names (as_deliver t m is) r n b p q named same = moved_same R names t m r n is named (handed_as Delivered) p q same
status_same R names (as_drop t m is) r n b p q named same = moved_same R names t m r n is named (handed_as Dropped) p q same
status_same R names _ r n b p q named same = same

equal_if : {X : Type 0} (b : Bool) (x x' y y' : X) → x ≡ y → x' ≡ y' → cond b x x' ≡ cond b y y'
equal_if true x x' y y' p q = p
equal_if false x x' y y' p q = q

-- both states after the event
pub shows_next : (R : Names) → AreNames R → (x : Step R) (g : Settings) (by : Actor) (with : Option Actor) (s c : State) → Shows R s c
    → Shows R (next g s (entry_by by with (first R x))) (next g c (entry_by by with (second R x)))
shows_next R names x g by with s c h =
    let e : Entry = entry_by by with (first R x) in
    record {
      clock = equal_if (has_actor e Keeper) _ _ _ _
          (ap (λ (k : Clock). clock_after g k (first R x)) h.clock ∙ clock_same R x g c.clock) h.clock;
      looked = λ a. equal_if (same_actor by a) _ _ _ _
          (ap (λ (t : ℤ). look_after t (first R x)) (h.looked a) ∙ look_same R x (c.looked a)) (h.looked a);
      exited = λ p. ap (λ (b : Bool). exited_after p b (first R x)) (h.exited p) ∙ exited_same R x p (c.exited p);
      rows = λ w. both_if (Pairs (SameRow R)) (has_actor e (Wheel w)) _ _ _ _
          (rows_same R x g (s.looked by) (c.looked by) w (s.rows w) (c.rows w) (h.rows w)) (h.rows w);
      mails = λ p. both_if (SameMails R) (has_actor e (MailOf p)) _ _ _ _
          (mail_same R names x s.scheds c.scheds (s.mails p) (c.mails p) h.scheds (h.mails p)) (h.mails p);
      inboxes = λ w. both_if (Pairs (SameRequest R)) (has_actor e (Inbox w)) _ _ _ _
          (inbox_same R x (s.inboxes w) (c.inboxes w) (h.inboxes w)) (h.inboxes w);
      scheds = λ w. both_if (SameSched R) (has_actor e (Sched w)) _ _ _ _
          (sched_same R names x s.rows c.rows (s.scheds w) (c.scheds w) h.rows (h.scheds w)) (h.scheds w);
      status = λ r n named.
          subst (λ (w : ℕ). status_after r (has_actor e (Wheel r.wheel)) (s.status r) (first R x)
          ≡ status_after n (has_actor e (Wheel w)) (c.status n) (second R x)) (sym (names.wheel r n named))
          (status_same R names x r n (has_actor e (Wheel r.wheel)) (s.status r) (c.status n) named (h.status r n named));
    }

-- a look at a slot changes nothing
pub shows_probed : (R : Names) (g : Settings) (by : Actor) (w k : ℕ) (found : Option Status) (s c : State) → Shows R s c
    → Shows R (next g s (probe_entry by w k found)) c
shows_probed R g by w k found s c h =
    let e : Entry = probe_entry by w k found in
    record {
      clock = rw (cond_same (has_actor e Keeper) s.clock) h.clock;
      looked = λ a. rw (cond_same (same_actor by a) (s.looked a)) (h.looked a);
      exited = h.exited;
      rows = λ v. rw (cond_same (has_actor e (Wheel v)) (s.rows v)) (h.rows v);
      mails = λ p. rw (cond_same (has_actor e (MailOf p)) (s.mails p)) (h.mails p);
      inboxes = λ v. rw (cond_same (has_actor e (Inbox v)) (s.inboxes v)) (h.inboxes v);
      scheds = λ v. rw (cond_same (has_actor e (Sched v)) (s.scheds v)) (h.scheds v);
      status = h.status;
    }
