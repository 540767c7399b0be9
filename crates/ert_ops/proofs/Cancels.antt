-- Cancelling and reading, by a caller or by a scheduler for one: both services find the same left.

use Rattle.std.proofs.Common.{◌≡◌, ℕ, ℤ, Bool, true, false, cond, ◌&&◌, nat_lt, nat_le, List, ◌∷◌, Option, Some, None, refl, sym, ap, ◌∙◌, subst, inl, inr, eq-eqb}
use Rattle.std.proofs.lemmas.Bool.{cases_eq}
use Rattle.ert_effects.specs.TimerCalls.{read_entries, cancel_entries, Reads, Cancels}
use Rattle.ert_defs.proofs.ExpiredTimers.{cond_same}
use Rattle.ert_defs.specs.{Actors.{same_actor, has_actor}, Clocks.Clock, Entries.{look_entry, peek_entry}, Legal.{LegalFrom, is_generation, names_timer, left_by, left_of}, States.{State, next, run}, Timers.{Row, row_of}, Milliseconds.left}
use Rattle.ert_defs.specs.{declared.entry.Actor.Actor, declared.entry.Actor.TheVariants.{Keeper, Wheel, Inbox, Sched, MailOf, Caller}, declared.entry.Entry.Entry, declared.settings.Settings.Settings, declared.timer.Status.Status}
use Rattle.ert_defs.specs.{declared.timer.Status.TheVariants.Armed, declared.timer.TimerRef.TimerRef}
use Rattle.ert_ops.proofs.{Bound.{IsName, names_are, sign, sign_some}, Clocks.IsDone, Meets.{Meets, meets_next}, Shown.{Names, AreNames, Both, SameRow, Shows, Pairs, row_both}, Steps.{as_look, as_peek, as_cancel}}
use Rattle.ert_ops.specs.{Labels.{Labels, label_of}, Lines.line_of, Plain.slot_of, PlainTimers.{is_bound, left_now, left_if, cancel_now, read_now}, declared.reply.Reply.Reply, declared.reply.Reply.TheVariants.Read}

same_actor_self : (a : Actor) → same_actor a a ≡ true
same_actor_self Keeper = refl
same_actor_self (Wheel n) = eq-eqb n n refl
same_actor_self (Inbox n) = eq-eqb n n refl
same_actor_self (Sched n) = eq-eqb n n refl
same_actor_self (MailOf n) = eq-eqb n n refl
same_actor_self (Caller n) = eq-eqb n n refl

-- what is left of a timer in both states

left_by_rows : (R : Names) (g : Settings) (look : ℤ) (status : Option Status) (a b : Option Row) → Both (SameRow R) a b
    → left_by g look status a ≡ left_by g look status b
left_by_rows R g look (Some Armed) None None h = refl
left_by_rows R g look (Some Armed) (Some x) (Some y) h = ap (λ (d : ℕ). Some (left g d look)) h.deadline
left_by_rows R g look (Some Armed) None (Some y) h = absurd h
left_by_rows R g look (Some Armed) (Some x) None h = absurd h
left_by_rows R g look _ a b h = refl

left_same : (R : Names) → AreNames R → (g : Settings) (by : Actor) (s c : State) (t n : TimerRef) → R t n → Shows R s c
    → left_of g s by t ≡ left_of g c by n
left_same R names g by s c t n is h =
    let rows : Pairs (SameRow R) (s.rows t.wheel) (c.rows n.wheel) =
    subst (λ (w : ℕ). Pairs (SameRow R) (s.rows t.wheel) (c.rows w)) (sym (names.wheel t n is)) (h.rows t.wheel) in
    ap (λ (x : ℤ). left_by g x (s.status t) (row_of (s.rows t.wheel) t)) (h.looked by)
    ∙ ap (λ (x : Option Status). left_by g (c.looked by) x (row_of (s.rows t.wheel) t)) (h.status t n is)
    ∙ left_by_rows R g (c.looked by) (c.status n) _ _ (row_both R names t n is (s.rows t.wheel) (c.rows n.wheel) rows)

left_looked : (g : Settings) (by : Actor) (c : State) (n : TimerRef) (now : ℤ)
    → left_of g (next g c (look_entry by now)) by n ≡ left_by g now (c.status n) (row_of (c.rows n.wheel) n)
left_looked g by c n now =
    ap (λ (b : Bool). left_by g (cond b now (c.looked by)) (c.status n) (row_of ((next g c (look_entry by now)).rows n.wheel) n)) (same_actor_self by)
    ∙ ap (λ (rows : List Row). left_by g now (c.status n) (row_of rows n)) (cond_same (has_actor (look_entry by now) (Wheel n.wheel)) (c.rows n.wheel))

left_peeked : (g : Settings) (by : Actor) (c : State) (n : TimerRef) (found : Option ℕ)
    → left_of g (next g c (peek_entry by n found)) by n ≡ left_of g c by n
left_peeked g by c n found =
    ap (λ (x : ℤ). left_by g x (c.status n) (row_of ((next g c (peek_entry by n found)).rows n.wheel) n)) (cond_same (same_actor by by) (c.looked by))
    ∙ ap (λ (rows : List Row). left_by g (c.looked by) (c.status n) (row_of rows n)) (cond_same (has_actor (peek_entry by n found) (Wheel n.wheel)) (c.rows n.wheel))

-- a reference is in range exactly where its name is that of a timer

and-none : (b : Bool) → (b && false) ≡ false
and-none true = refl
and-none false = refl

bound_same : (g : Settings) (ls : Labels) (t n : TimerRef) → IsName g ls t n → names_timer g t ≡ is_bound n
bound_same g ls t n h = elim (cases_eq t.generation 0) [
  | inl none ↦
      ap (λ (k : ℕ). nat_lt t.wheel g.schedulers && nat_lt t.slot g.slots && is_generation k) none
      ∙ and-none (nat_lt t.wheel g.schedulers && nat_lt t.slot g.slots)
      ∙ sym (ap (λ (k : ℕ). nat_le 1 k) (h.generation ∙ ap (λ (k : ℕ). sign k) none))
  | inr some ↦ h.in_range some ∙ sym (ap (λ (k : ℕ). nat_le 1 k) (h.generation ∙ sign_some t.generation some))
]

-- what both do after a look

pub record AreCancelled (g : Settings) (n : ℕ) (ls : Labels) (s c : State) (es fs : List Entry) (answer other : Option ℕ) : Type 0 where
  pub answers : answer ≡ other
  pub meets : Meets g n ls (run g s es) (run g c fs)

cancel_steps : (g : Settings) (n : ℕ) (ls : Labels) (by : Actor) (s c : State) (t m : TimerRef) (b : Bool) (found answer : Option ℕ) → IsName g ls t m
    → Meets g n ls s c → LegalFrom g s (cancel_entries b by t found answer)
    → (b ≡ false → found ≡ None) → (found ≡ None → answer ≡ None)
    → AreCancelled g n ls s c (cancel_entries b by t found answer) (cancel_entries b by m (left_of g c by m) (left_of g c by m)) answer (left_if b (left_of g c by m))
cancel_steps g n ls by s c t m false found answer is h legal unread quiet = record { answers = quiet (unread refl); meets = h }
cancel_steps g n ls by s c t m true None answer is h legal unread quiet =
    let none : None ≡ left_of g c by m = legal.0.found ∙ left_same (IsName g ls) (names_are g ls) g by s c t m is h.shows in
    let P : Option ℕ → Type 0 =
    λ x. Meets g n ls (run g s (cancel_entries true by t None answer)) (run g c (cancel_entries true by m x x)) in
    record {
      answers = quiet refl ∙ none;
      meets = subst P none (meets_next g n ls (as_peek t m is None) by None s c h legal.0);
    }
cancel_steps g n ls by s c t m true (Some f) answer is h legal unread quiet =
    let one : Some f ≡ left_of g c by m = legal.0.found ∙ left_same (IsName g ls) (names_are g ls) g by s c t m is h.shows in
    let read = meets_next g n ls (as_peek t m is (Some f)) by None s c h legal.0 in
    let two : answer ≡ left_of g c by m =
    legal.1.0.found ∙ left_same (IsName g ls) (names_are g ls) g by _ _ t m is read.shows ∙ left_peeked g by c m (Some f) in
    let P : Option ℕ → Type 0 =
    λ x. Meets g n ls (run g s (cancel_entries true by t (Some f) answer)) (run g c (cancel_entries true by m x x)) in
    let Q : Option ℕ → Type 0 =
    λ x. Meets g n ls (run g s (cancel_entries true by t (Some f) answer)) (run g c (cancel_entries true by m (Some f) x)) in
    record {
      answers = two;
      meets = subst P one (subst Q (two ∙ sym one) (meets_next g n ls (as_cancel t m is answer) by None _ _ read legal.1.0));
    }

pub cancels_meet : (g : Settings) (n : ℕ) (ls : Labels) (by : Actor) (s c : State) (t m : TimerRef) (answer : Option ℕ) (es : List Entry) → IsName g ls t m
    → Meets g n ls s c → LegalFrom g s es → Cancels g by t answer s es
    → AreCancelled g n ls s c es (look_entry by c.clock.now ∷ cancel_entries (is_bound m) by m (left_now g c m) (left_now g c m))
    answer (left_if (is_bound m) (left_now g c m))
cancels_meet g n ls by s c t m answer es is h legal does =
    let lawful = subst (λ (x : List Entry). LegalFrom g s x) does.entries legal in
    let time : does.now ≡ c.clock.now = lawful.0.found ∙ ap (λ (k : Clock). k.now) h.shows.clock in
    let look = meets_next g n ls (as_look does.now) by None s c h lawful.0 in
    let bound = bound_same g ls t m is in
    let done = cancel_steps g n ls by _ _ t m (names_timer g t) does.found answer is look lawful.1 does.unread does.quiet in
    let P : ℤ → Option ℕ → Bool → Type 0 =
    λ now x b. AreCancelled g n ls s c (look_entry by does.now ∷ cancel_entries (names_timer g t) by t does.found answer)
    (look_entry by now ∷ cancel_entries b by m x x) answer (left_if b x) in
    let here : P does.now (left_of g (next g c (look_entry by does.now)) by m) (names_timer g t) =
    record { answers = done.answers; meets = done.meets } in
    let left_is : left_of g (next g c (look_entry by does.now)) by m ≡ left_now g c m =
    left_looked g by c m does.now ∙ ap (λ (x : ℤ). left_by g x (c.status m) (row_of (c.rows m.wheel) m)) time in
    subst (λ (x : List Entry). AreCancelled g n ls s c x (look_entry by c.clock.now ∷ cancel_entries (is_bound m) by m (left_now g c m) (left_now g c m))
    answer (left_if (is_bound m) (left_now g c m))) (sym does.entries)
    (subst (λ (b : Bool). P c.clock.now (left_now g c m) b) bound
    (subst (λ (x : Option ℕ). P c.clock.now x (names_timer g t)) left_is
    (subst (λ (now : ℤ). P now (left_of g (next g c (look_entry by does.now)) by m) (names_timer g t)) time here)))

-- reading

read_steps : (g : Settings) (n : ℕ) (ls : Labels) (by : Actor) (s c : State) (t m : TimerRef) (b : Bool) (answer : Option ℕ) → IsName g ls t m
    → Meets g n ls s c → LegalFrom g s (read_entries b by t answer) → (b ≡ false → answer ≡ None)
    → AreCancelled g n ls s c (read_entries b by t answer) (read_entries b by m (left_of g c by m)) answer (left_if b (left_of g c by m))
read_steps g n ls by s c t m false answer is h legal quiet = record { answers = quiet refl; meets = h }
read_steps g n ls by s c t m true answer is h legal quiet =
    let one : answer ≡ left_of g c by m = legal.0.found ∙ left_same (IsName g ls) (names_are g ls) g by s c t m is h.shows in
    let P : Option ℕ → Type 0 = λ x. Meets g n ls (run g s (read_entries true by t answer)) (run g c (read_entries true by m x)) in
    record { answers = one; meets = subst P one (meets_next g n ls (as_peek t m is answer) by None s c h legal.0) }

pub reads_meet : (g : Settings) (n : ℕ) (ls : Labels) (by : Actor) (s c : State) (t m : TimerRef) (answer : Option ℕ) (es : List Entry) → IsName g ls t m
    → Meets g n ls s c → LegalFrom g s es → Reads g by t answer s es
    → AreCancelled g n ls s c es (look_entry by c.clock.now ∷ read_entries (is_bound m) by m (left_now g c m)) answer (left_if (is_bound m) (left_now g c m))
reads_meet g n ls by s c t m answer es is h legal does =
    let lawful = subst (λ (x : List Entry). LegalFrom g s x) does.entries legal in
    let time : does.now ≡ c.clock.now = lawful.0.found ∙ ap (λ (k : Clock). k.now) h.shows.clock in
    let look = meets_next g n ls (as_look does.now) by None s c h lawful.0 in
    let done = read_steps g n ls by _ _ t m (names_timer g t) answer is look lawful.1 does.quiet in
    let P : ℤ → Option ℕ → Bool → Type 0 =
    λ now x b. AreCancelled g n ls s c (look_entry by does.now ∷ read_entries (names_timer g t) by t answer)
    (look_entry by now ∷ read_entries b by m x) answer (left_if b x) in
    let here : P does.now (left_of g (next g c (look_entry by does.now)) by m) (names_timer g t) =
    record { answers = done.answers; meets = done.meets } in
    let left_is : left_of g (next g c (look_entry by does.now)) by m ≡ left_now g c m =
    left_looked g by c m does.now ∙ ap (λ (x : ℤ). left_by g x (c.status m) (row_of (c.rows m.wheel) m)) time in
    subst (λ (x : List Entry). AreCancelled g n ls s c x (look_entry by c.clock.now ∷ read_entries (is_bound m) by m (left_now g c m))
    answer (left_if (is_bound m) (left_now g c m))) (sym does.entries)
    (subst (λ (b : Bool). P c.clock.now (left_now g c m) b) (bound_same g ls t m is)
    (subst (λ (x : Option ℕ). P c.clock.now x (names_timer g t)) left_is
    (subst (λ (now : ℤ). P now (left_of g (next g c (look_entry by does.now)) by m) (names_timer g t)) time here)))

-- the ops
pub cancel_done : (g : Settings) (n : ℕ) (ls : Labels) (s c : State) (t m : TimerRef) (answer : Option ℕ) (reply : Option ℕ → Reply) (es : List Entry)
    → IsName g ls t m → ((x : Option ℕ) → line_of (label_of ls) (reply x) ≡ line_of slot_of (reply x))
    → Meets g n ls s c → LegalFrom g s es → Cancels g (Caller 0) t answer s es
    → IsDone g n ls s c (reply answer) es (cancel_now g c m reply)
cancel_done g n ls s c t m answer reply es is plain h legal does =
    let done = cancels_meet g n ls (Caller 0) s c t m answer es is h legal does in
    record { line = plain answer ∙ ap (λ (x : Option ℕ). line_of slot_of (reply x)) done.answers; meets = done.meets }

pub read_done : (g : Settings) (n : ℕ) (ls : Labels) (s c : State) (t m : TimerRef) (answer : Option ℕ) (es : List Entry) → IsName g ls t m
    → Meets g n ls s c → LegalFrom g s es → Reads g (Caller 0) t answer s es → IsDone g n ls s c (Read answer) es (read_now g c m)
read_done g n ls s c t m answer es is h legal does =
    let done = reads_meet g n ls (Caller 0) s c t m answer es is h legal does in
    record { line = ap (λ (x : Option ℕ). line_of slot_of (Read x)) done.answers; meets = done.meets }
