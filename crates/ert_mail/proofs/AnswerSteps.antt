-- The steps by which an asynchronous request is answered.

use Rattle.std.proofs.Common.{◌≡◌, ◌⊎◌, ℕ, ◌+◌, ◌<◌, ℤ, Bool, true, false, cond, List, [], ◌∷◌, ◌++◌, Option, Some, None, Ok, inl, inr, refl, sym, ap, subst, ◌∙◌, eq-eqb, add-zero}
use Rattle.ert_defs.specs.{Entries.{look_entry, peek_entry, cancel_entry, answer_entry}, Legal.{IsResult, names_timer}, Mails.{SchedState, answer_in, is_about}, States.{State, next, run, state}, declared.entry.Actor.TheVariants.Sched}
use Rattle.ert_defs.specs.{declared.entry.Actor.TheVariants.MailOf, declared.entry.Entry.Entry, declared.mail.Request.Request, declared.mail.RequestKind.RequestKind, declared.mail.RequestKind.TheVariants.{Cancel, Read}}
use Rattle.ert_defs.specs.{declared.settings.Settings.Settings, declared.timer.TimerRef.TimerRef}
use Rattle.ert_defs.proofs.ExpiredTimers.{same_timer_self}
use Rattle.ert_effects.specs.{RequestCalls.DoesAsked, TimerCalls.{Reads, Cancels, read_entries, cancel_entries}}
use Rattle.ert_table.specs.{Held.is_held, Calls.IsMade, Takes.{MayStep, Appends}, declared.view.View.View}
use Rattle.ert_table.proofs.{Calls.{step_takes_place, takes_place_then}, Parts.{AreByThemselves, mail_own, sched_own, own_after, stepped}}
use Rattle.ert_laws.specs.Counts.{deliveries}
use Rattle.ert_mail.specs.{Mailboxes.{HoldsMailboxAndSched, sched_after_answer}, Steps.{IsReplied, with_answer}}
use Rattle.ert_mail.proofs.{Standing.{deliveries_after, mails_before}, Handings.scheds_before}

-- the entries of what a scheduler does for a request: it looks, and no more where the reference is out of
-- range; or it reads the timer; or it reads and cancels it
abbrev pub AreAsked : Settings → ℕ → TimerRef → Option ℕ → List Entry → Type 0
AreAsked g n timer left es =
    ((now : ℤ) × (names_timer g timer ≡ false) × (left ≡ None) × (es ≡ look_entry (Sched n) now ∷ []))
    ⊎ ((now : ℤ) × (names_timer g timer ≡ true) × (es ≡ look_entry (Sched n) now ∷ (peek_entry (Sched n) timer left ∷ [])))
    ⊎ ((now : ℤ) × (found : Option ℕ) × (names_timer g timer ≡ true)
    × (es ≡ look_entry (Sched n) now ∷ (peek_entry (Sched n) timer found ∷ (cancel_entry (Sched n) timer left ∷ []))))

read_asked : (g : Settings) (n : ℕ) (timer : TimerRef) (left : Option ℕ) (s : State) (es : List Entry) → Reads g (Sched n) timer left s es
    → AreAsked g n timer left es
read_asked g n timer left s es reads = at (names_timer g timer) refl
  where
    at : (b : Bool) → names_timer g timer ≡ b → AreAsked g n timer left es
    at true is = inr (inl (reads.now, is, reads.entries ∙ ap (λ b. look_entry (Sched n) reads.now ∷ read_entries b (Sched n) timer left) is))
    at false is = inl (reads.now, is, reads.quiet is, reads.entries ∙ ap (λ b. look_entry (Sched n) reads.now ∷ read_entries b (Sched n) timer left) is)

cancel_asked : (g : Settings) (n : ℕ) (timer : TimerRef) (left : Option ℕ) (s : State) (es : List Entry) → Cancels g (Sched n) timer left s es
    → AreAsked g n timer left es
cancel_asked g n timer left s es cancels = at (names_timer g timer) refl cancels.found refl
  where
    by_case : (b : Bool) (x : Option ℕ) → names_timer g timer ≡ b → cancels.found ≡ x
        → es ≡ look_entry (Sched n) cancels.now ∷ cancel_entries b (Sched n) timer x left
    by_case b x is found =
        cancels.entries
        ∙ (ap (λ b. look_entry (Sched n) cancels.now ∷ cancel_entries b (Sched n) timer cancels.found left) is
        ∙ ap (λ x. look_entry (Sched n) cancels.now ∷ cancel_entries b (Sched n) timer x left) found)

    at : (b : Bool) → names_timer g timer ≡ b → (x : Option ℕ) → cancels.found ≡ x → AreAsked g n timer left es
    at false is x found = inl (cancels.now, is, cancels.quiet (cancels.unread is), by_case false x is found)
    at true is None found =
        inr (inl (
          cancels.now,
          is,
          by_case true None is found
              ∙ ap (λ left. look_entry (Sched n) cancels.now ∷ (peek_entry (Sched n) timer left ∷ [])) (sym (cancels.quiet found)),
        ))
    at true is (Some x) found = inr (inr (cancels.now, Some x, is, by_case true (Some x) is found))

pub asked : (g : Settings) (n : ℕ) (kind : RequestKind) (timer : TimerRef) (left : Option ℕ) (s : State) (es : List Entry)
    → DoesAsked kind g n timer left s es → AreAsked g n timer left es
asked g n Cancel timer left s es does = cancel_asked g n timer left s es does
asked g n Read timer left s es does = read_asked g n timer left s es does

-- they leave what a process has, and deliver nothing
mails_asked : (g : Settings) (n p : ℕ) (timer : TimerRef) (left : Option ℕ) (es : List Entry) → AreAsked g n timer left es
    → AreByThemselves g (λ (s : State). s.mails p) es × ((s : State) → (run g s es).mails p ≡ s.mails p) × (deliveries p es ≡ 0)
mails_asked g n p timer left es (inl are) = rw are.3 ((λ s t same. same, tt), λ s. refl, refl)
mails_asked g n p timer left es (inr (inl are)) = rw are.2 ((λ s t same. same, (λ s t same. same, tt)), λ s. refl, refl)
mails_asked g n p timer left es (inr (inr are)) =
    rw are.3 ((λ s t same. same, (λ s t same. same, (λ s t same. same, tt))), λ s. refl, refl)

-- the scheduler has then the same request in its hand, with this result
pub record IsDone (g : Settings) (request : Request) (left : Option ℕ) (s t : SchedState) : Type 0 where
  pub hand : t.hand ≡ s.hand
  pub expired : t.expired ≡ s.expired
  pub result : IsResult (names_timer g request.timer) t.result left

-- what it has after a step on a timer
abbrev noted : TimerRef → Option ℕ → SchedState → SchedState
noted timer left s = record { hand = s.hand; result = cond (is_about timer s.hand) (Some left) s.result; expired = s.expired }

looked : (g : Settings) (n : ℕ) (now : ℤ) (s : State) → (next g s (look_entry (Sched n) now)).scheds n ≡ s.scheds n
looked g n now s = rw (eq-eqb n n refl) refl

peeked : (g : Settings) (n : ℕ) (timer : TimerRef) (left : Option ℕ) (s : State)
    → (next g s (peek_entry (Sched n) timer left)).scheds n ≡ noted timer left (s.scheds n)
peeked g n timer left s = rw (eq-eqb n n refl) refl

cancelled : (g : Settings) (n : ℕ) (timer : TimerRef) (left : Option ℕ) (s : State)
    → (next g s (cancel_entry (Sched n) timer left)).scheds n ≡ noted timer left (s.scheds n)
cancelled g n timer left s = rw (eq-eqb n n refl) refl

by_look : (g : Settings) (n : ℕ) (now : ℤ) (s t : State) → s.scheds n ≡ t.scheds n
    → (next g s (look_entry (Sched n) now)).scheds n ≡ (next g t (look_entry (Sched n) now)).scheds n
by_look g n now s t same = looked g n now s ∙ (same ∙ sym (looked g n now t))

by_peek : (g : Settings) (n : ℕ) (timer : TimerRef) (left : Option ℕ) (s t : State) → s.scheds n ≡ t.scheds n
    → (next g s (peek_entry (Sched n) timer left)).scheds n ≡ (next g t (peek_entry (Sched n) timer left)).scheds n
by_peek g n timer left s t same = peeked g n timer left s ∙ (ap (noted timer left) same ∙ sym (peeked g n timer left t))

by_cancel : (g : Settings) (n : ℕ) (timer : TimerRef) (left : Option ℕ) (s t : State) → s.scheds n ≡ t.scheds n
    → (next g s (cancel_entry (Sched n) timer left)).scheds n ≡ (next g t (cancel_entry (Sched n) timer left)).scheds n
by_cancel g n timer left s t same = cancelled g n timer left s ∙ (ap (noted timer left) same ∙ sym (cancelled g n timer left t))

-- the result of a step on the timer of the request in its hand
noted_is : (timer : TimerRef) (left : Option ℕ) (request : Request) (s : SchedState) → s.hand ≡ Some request → request.timer ≡ timer
    → (noted timer left s).result ≡ Some left
noted_is timer left request s hand same = rw (hand, same, same_timer_self timer) refl

done : (g : Settings) (request : Request) (left : Option ℕ) (s t u : SchedState) → s.hand ≡ Some request → names_timer g request.timer ≡ true
    → t.hand ≡ s.hand → t.expired ≡ s.expired → u ≡ noted request.timer left t → IsDone g request left s u
done g request left s t u hand names same_hand same_expired is = record {
  hand = ap (λ (x : SchedState). x.hand) is ∙ same_hand;
  expired = ap (λ (x : SchedState). x.expired) is ∙ same_expired;
  result = rw names (ap (λ (x : SchedState). x.result) is ∙ noted_is request.timer left request t (same_hand ∙ hand) refl);
}

sched_asked : (g : Settings) (n : ℕ) (request : Request) (left : Option ℕ) (es : List Entry) → AreAsked g n request.timer left es
    → AreByThemselves g (λ (s : State). s.scheds n) es
    × ((s : State) → (s.scheds n).hand ≡ Some request → IsDone g request left (s.scheds n) ((run g s es).scheds n))
sched_asked g n request left es (inl are) =
    rw are.3 (
      (by_look g n are.0, tt),
      λ s hand. record {
        hand = ap (λ (x : SchedState). x.hand) (looked g n are.0 s);
        expired = ap (λ (x : SchedState). x.expired) (looked g n are.0 s);
        result = rw are.1 are.2;
      },
    )
sched_asked g n request left es (inr (inl are)) =
    rw are.2 (
      (by_look g n are.0, (by_peek g n request.timer left, tt)),
      λ s hand. done g request left (s.scheds n) (s.scheds n) _ hand are.1 refl refl
          (peeked g n request.timer left (next g s (look_entry (Sched n) are.0)) ∙ ap (noted request.timer left) (looked g n are.0 s)),
    )
sched_asked g n request left es (inr (inr are)) =
    rw are.3 (
      (by_look g n are.0, (by_peek g n request.timer are.1, (by_cancel g n request.timer left, tt))),
      λ s hand. done g request left (s.scheds n) (noted request.timer are.1 (s.scheds n)) _ hand are.2 refl refl
          (cancelled g n request.timer left (next g (next g s (look_entry (Sched n) are.0)) (peek_entry (Sched n) request.timer are.1))
          ∙ ap (noted request.timer left)
          (peeked g n request.timer are.1 (next g s (look_entry (Sched n) are.0)) ∙ ap (noted request.timer are.1) (looked g n are.0 s))),
    )

-- what a pass knows once the request in the hand of its scheduler is done
record IsAnswerable (g : Settings) (v : View) (n : ℕ) (request : Request) (left : Option ℕ) (u : View) : Type 0 where
  holds : HoldsMailboxAndSched g u n request.reply_to
  sched : IsDone g request left ((state g v.front).scheds n) ((state g u.front).scheds n)
  hand : ((state g u.front).scheds n).hand ≡ Some request
  mails : (state g u.front).mails request.reply_to ≡ (state g v.front).mails request.reply_to
  undelivered : deliveries request.reply_to u.front ≡ deliveries request.reply_to v.front

answerable : (g : Settings) (v : View) (n : ℕ) (request : Request) (left : Option ℕ) (u : View) → HoldsMailboxAndSched g v n request.reply_to
    → ((state g v.front).scheds n).hand ≡ Some request → IsMade g v (DoesAsked request.kind g n request.timer left) u
    → IsAnswerable g v n request left u
answerable g v n request left u holds hand does =
    let p = request.reply_to in
    let are = asked g n request.kind request.timer left (state g v.front) does.entries does.allowed in
    let mail = mails_asked g n p request.timer left does.entries are in
    let sched = sched_asked g n request left does.entries are in
    let after = own_after g v does.entries u (λ (s : State). s.scheds n) (sched_own g v.actors n holds.sched) does.call sched.0 in
    let is_done : IsDone g request left ((state g v.front).scheds n) ((state g u.front).scheds n) =
    subst (IsDone g request left ((state g v.front).scheds n)) (sym after) (sched.1 (state g v.front) hand) in
    record {
      holds = record {
        sched = subst (λ actors. is_held actors (Sched n) ≡ true) (sym does.call.actors) holds.sched;
        below = holds.below;
        mail = subst (λ actors. is_held actors (MailOf p) ≡ true) (sym does.call.actors) holds.mail;
      };
      sched = is_done;
      hand = is_done.hand ∙ hand;
      mails = own_after g v does.entries u (λ (s : State). s.mails p) (mail_own g v.actors p holds.mail) does.call mail.0 ∙ mail.1 (state g v.front);
      undelivered = deliveries_after g v does.entries u p holds.mail does.call
          ∙ (ap (λ d. deliveries p v.front + d) mail.2 ∙ add-zero (deliveries p v.front));
    }

pub may_answer : (g : Settings) (v : View) (n : ℕ) (request : Request) (left : Option ℕ) (u : View) → HoldsMailboxAndSched g v n request.reply_to
    → request.reply_to < g.processes → ((state g v.front).scheds n).hand ≡ Some request
    → IsMade g v (DoesAsked request.kind g n request.timer left) u → MayStep g u (answer_entry n request.reply_to left)
may_answer g v n request left u holds in_range hand does =
    let now = answerable g v n request left u holds hand does in
    record {
      ours = (now.holds.sched, now.holds.mail);
      keeps = (refl, in_range, holds.below);
      known = record { request = request; hand = now.hand; asker = refl; result = now.sched.result };
    }

pub replied : (g : Settings) (v : View) (n : ℕ) (request : Request) (left : Option ℕ) (u x : View) → HoldsMailboxAndSched g v n request.reply_to
    → ((state g v.front).scheds n).hand ≡ Some request → IsMade g v (DoesAsked request.kind g n request.timer left) u
    → Appends g u (answer_entry n request.reply_to left) x → IsReplied g v n request left x
replied g v n request left u x holds hand does step =
    let p = request.reply_to in
    let e : Entry = answer_entry n p left in
    let now = answerable g v n request left u holds hand does in
    let at : State = state g (u.front ++ step.between) in
    let sched_at = scheds_before g u e x n now.holds.sched step in
    let mail_at = mails_before g u e x p now.holds.mail step in
    let hand_at : (at.scheds n).hand ≡ Some request = ap (λ (s : SchedState). s.hand) sched_at ∙ now.hand in
    let expired_at : (at.scheds n).expired ≡ ((state g v.front).scheds n).expired = ap (λ (s : SchedState). s.expired) sched_at ∙ now.sched.expired in
    let sched_is : (s : State) → (next g s e).scheds n ≡ sched_after_answer (Ok left) (s.scheds n) = λ s. rw (eq-eqb n n refl) refl in
    let mail_is : (s : State) → (next g s e).mails p ≡ record { queue = (s.mails p).queue ++ answer_in (s.scheds n).hand left; monitors = (s.mails p).monitors; next = (s.mails p).next } =
    λ s. rw (eq-eqb p p refl) refl in
    let none : deliveries p (e ∷ []) ≡ 0 = rw (eq-eqb p p refl) refl in
    record {
      call = record {
        entries = does.entries ++ e ∷ [];
        allowed = record { steps = does.entries; done = does.allowed; entries = refl };
        call = takes_place_then g v u x does.entries (e ∷ []) does.call (step_takes_place g u e x step);
      };
      sched = ap (λ (s : State). s.scheds n) (stepped g u e x step)
          ∙ (sched_is at ∙ ap (λ expired. record { hand = None; result = None; expired = expired }) expired_at);
      mails = ap (λ (s : State). s.mails p) (stepped g u e x step)
          ∙ (mail_is at
          ∙ (ap (λ hand. record { queue = (at.mails p).queue ++ answer_in hand left; monitors = (at.mails p).monitors; next = (at.mails p).next }) hand_at
          ∙ ap (with_answer request left) (mail_at ∙ now.mails)));
      undelivered = deliveries_after g u (e ∷ []) x p now.holds.mail (step_takes_place g u e x step)
          ∙ (ap (λ d. deliveries p u.front + d) none ∙ (add-zero (deliveries p u.front) ∙ now.undelivered));
    }
