-- What each monitor was last told.

use Rattle.std.proofs.Common.{◌≡◌, ℕ, ℤ, ◌+◌, ◌<◌, Bool, true, false, cond, not, nat_eq, List, [], ◌∷◌, ◌++◌, All, get_or, Option, Some, None, refl, sym, ap, ◌∙◌, arith, append_assoc, eqb-true, eq-eqb, ne_eqb}
use Rattle.std.proofs.lemmas.List.Elements.{All-nil, All-push, All-filter, All-map}
use Rattle.ert_defs.specs.{Actors.has_actor, Legal.{Can, Legal}, Mails.{MailState, changes_of, mail_after, told_of, without}, States.{State, next, state}, declared.entry.Actor.Actor, declared.entry.Actor.TheVariants.MailOf}
use Rattle.ert_defs.specs.{declared.entry.Entry.Entry, declared.entry.Event.Event, declared.entry.Event.TheVariants.{Watch, Unwatch, Tell}, declared.mail.Mail.Mail, declared.mail.Monitor.Monitor, declared.settings.Settings.Settings}
use Rattle.ert_defs.proofs.{ExpiredLists.made, Runs.carry}
use Rattle.ert_laws.specs.Changes.{told_by, LastTold}
use Rattle.ert_laws.proofs.{Histories.{by_entries, state-more}, Mailboxes.{mail_has, caller_no_mail}}

-- the monitors of a process: each has a number below the next one, and was last told its offset
pub record AreTold (g : Settings) (h : List Entry) (p : ℕ) (m : MailState) : Type 0 where
  pub numbers : All (λ (x : Monitor). x.number < m.next) m.monitors
  pub told : All (λ (x : Monitor). LastTold g h p x.number x.told) m.monitors

-- an entry that tells a monitor nothing leaves what it was last told
pub told_still : (g : Settings) (h : List Entry) (e : Entry) (p n : ℕ) (told : ℤ) → told_by p n e.event ≡ None → LastTold g h p n told
    → LastTold g (h ++ e ∷ []) p n told
told_still g h e p n told none last = record {
  before = last.before;
  teller = last.teller;
  behind = last.behind ++ e ∷ [];
  stands = ap (λ x. x ++ e ∷ []) last.stands ∙ append_assoc last.before (last.teller ∷ last.behind) (e ∷ []);
  tells = last.tells;
  offset = last.offset;
  last = All-push (λ (e : Entry). told_by p n e.event ≡ None) last.behind e last.last none;
}

-- one that tells it an offset is the last that does
pub told_now : (g : Settings) (h : List Entry) (e : Entry) (p n : ℕ) (told : ℤ) → told_by p n e.event ≡ Some told
    → told ≡ (state g h).clock.offset → LastTold g (h ++ e ∷ []) p n told
told_now g h e p n told tells offset = record {
  before = h;
  teller = e;
  behind = [];
  stands = refl;
  tells = tells;
  offset = offset;
  last = All-nil (λ (e : Entry). told_by p n e.event ≡ None);
}

-- an entry that tells no monitor of a process anything
told_none : (g : Settings) (h : List Entry) (e : Entry) (p : ℕ) (m : MailState) → ((n : ℕ) → told_by p n e.event ≡ None)
    → AreTold g h p m → AreTold g (h ++ e ∷ []) p m
told_none g h e p m none h' = record {
  numbers = h'.numbers;
  told = λ k d lt. told_still g h e p (get_or m.monitors k d).number (get_or m.monitors k d).told (none (get_or m.monitors k d).number) (h'.told k d lt);
}

watch_at : (g : Settings) (h : List Entry) (by : Actor) (with : Option Actor) (process monitor p : ℕ) (offset : ℤ) (m : MailState) (b : Bool)
    → nat_eq process p ≡ b → (b ≡ true → monitor ≡ m.next) → offset ≡ (state g h).clock.offset → AreTold g h p m
    → AreTold g (h ++ made by with (Watch process monitor offset) ∷ []) p
    (cond b (record { queue = m.queue; monitors = m.monitors ++ (record { number = monitor; told = offset }) ∷ []; next = monitor + 1 }) m)
watch_at g h by with process monitor p offset m true is next own told =
    let e : Entry = made by with (Watch process monitor offset) in
    let number : monitor ≡ m.next = next refl in
    let new : Monitor = record { number = monitor; told = offset } in
    record {
      numbers = All-push (λ (x : Monitor). x.number < monitor + 1) m.monitors new
          (λ k d lt. (let below = told.numbers k d lt in omega arith)) (omega arith);
      told = All-push (λ (x : Monitor). LastTold g (h ++ e ∷ []) p x.number x.told) m.monitors new
          (λ k d lt.
          let x : Monitor = get_or m.monitors k d in
          let below = told.numbers k d lt in
          let other : nat_eq monitor x.number ≡ false = ne_eqb monitor x.number (omega arith) in
          told_still g h e p x.number x.told (rw (is, other) refl) (told.told k d lt))
          (told_now g h e p monitor offset (rw (is, eq-eqb monitor monitor refl) refl) own);
    }
watch_at g h by with process monitor p offset m false is next own told =
    told_none g h (made by with (Watch process monitor offset)) p m (λ n. rw is refl) told

tell_at : (g : Settings) (h : List Entry) (by : Actor) (with : Option Actor) (process p : ℕ) (offset : ℤ) (m : MailState) (more : List Mail) (b : Bool)
    → nat_eq process p ≡ b → offset ≡ (state g h).clock.offset → AreTold g h p m
    → AreTold g (h ++ made by with (Tell process offset) ∷ []) p
    (cond b (record { queue = m.queue ++ more; monitors = told_of offset m.monitors; next = m.next }) m)
tell_at g h by with process p offset m more true is own told =
    let e : Entry = made by with (Tell process offset) in
    let after : Monitor → Monitor = λ x. record { number = x.number; told = offset } in
    record {
      numbers = All-map (λ (x : Monitor). x.number < m.next) after m.monitors told.numbers;
      told = All-map (λ (x : Monitor). LastTold g (h ++ e ∷ []) p x.number x.told) after m.monitors
          (λ k d lt. told_now g h e p (get_or m.monitors k d).number offset (rw is refl) own);
    }
tell_at g h by with process p offset m more false is own told =
    told_none g h (made by with (Tell process offset)) p m (λ n. rw is refl) told

-- an unwatch leaves the others
unwatch_at : (g : Settings) (h : List Entry) (p n : ℕ) (m : MailState) (b : Bool) → AreTold g h p m
    → AreTold g h p (cond b (record { queue = m.queue; monitors = without n m.monitors; next = m.next }) m)
unwatch_at g h p n m true told = record {
  numbers = All-filter (λ (x : Monitor). not (nat_eq x.number n)) (λ (x : Monitor). x.number < m.next) m.monitors told.numbers;
  told = All-filter (λ (x : Monitor). not (nat_eq x.number n)) (λ (x : Monitor). LastTold g h p x.number x.told) m.monitors told.told;
}
unwatch_at g h p n m false told = told

-- a mailbox whose monitors and next number are those of another
same_told : (g : Settings) (h : List Entry) (p : ℕ) (b : Bool) (x y : MailState) → x.monitors ≡ y.monitors → x.next ≡ y.next → AreTold g h p y
    → AreTold g h p (cond b x y)
same_told g h p true x y monitors next told = record {
  numbers = carry (λ l. All (λ (z : Monitor). z.number < x.next) l) monitors (carry (λ n. All (λ (z : Monitor). z.number < n) y.monitors) next told.numbers);
  told = carry (λ l. All (λ (z : Monitor). LastTold g h p z.number z.told) l) monitors told.told;
}
same_told g h p false x y monitors next told = told

told_event : (g : Settings) (h : List Entry) (by : Actor) (with : Option Actor) (event : Event) (p : ℕ) → Can g (state g h) (made by with event)
    → AreTold g h p ((state g h).mails p)
    → AreTold g (h ++ made by with event ∷ []) p
    (cond (has_actor (made by with event) (MailOf p)) (mail_after (state g h).scheds ((state g h).mails p) event) ((state g h).mails p))
told_event g h by with (Watch process monitor offset) p can told =
    let e : Entry = made by with (Watch process monitor offset) in
    let has : has_actor e (MailOf p) ≡ nat_eq process p = mail_has e process p (caller_no_mail g by p can.keeps.0) can.keeps.1 in
    watch_at g h by with process monitor p offset ((state g h).mails p) (has_actor e (MailOf p)) (sym has)
    (λ here. can.known.0 ∙ ap (λ q. ((state g h).mails q).next) (eqb-true process p (sym has ∙ here))) can.found told
told_event g h by with (Tell process offset) p can told =
    let e : Entry = made by with (Tell process offset) in
    let has : has_actor e (MailOf p) ≡ nat_eq process p = mail_has e process p (caller_no_mail g by p can.keeps.0) can.keeps.1 in
    tell_at g h by with process p offset ((state g h).mails p) (changes_of offset ((state g h).mails p).monitors) (has_actor e (MailOf p)) (sym has)
    can.found told
told_event g h by with (Unwatch process monitor was) p can told =
    let e : Entry = made by with (Unwatch process monitor was) in
    unwatch_at g (h ++ e ∷ []) p monitor ((state g h).mails p) (has_actor e (MailOf p))
    (told_none g h e p ((state g h).mails p) (λ n. refl) told)
told_event g h by with event p can told =
    same_told g (h ++ made by with event ∷ []) p (has_actor (made by with event) (MailOf p)) (mail_after (state g h).scheds ((state g h).mails p) event) ((state g h).mails p)
    refl refl (told_none g h (made by with event) p ((state g h).mails p) (λ n. refl) told)

pub monitors_told : (g : Settings) (h : List Entry) (p : ℕ) → Legal g h → AreTold g h p ((state g h).mails p)
monitors_told g h p legal =
    by_entries g (λ h. AreTold g h p ((state g h).mails p))
    (λ h e legal can told.
    carry (λ (s : State). AreTold g (h ++ e ∷ []) p (s.mails p)) (state-more g h e)
    (told_event g h e.by e.with e.event p can told))
    (record { numbers = λ k d lt. absurd (omega arith); told = λ k d lt. absurd (omega arith) }) h legal
