-- A process with mail is looked for.

use Rattle.std.proofs.Common.{◌≡◌, ◌≢◌, ℕ, ◌+◌, ◌<◌, Bool, true, false, cond, ◌&&◌, ◌||◌, List, [], ◌∷◌, ◌++◌, length, filter, slice_index_or, Some, None, refl, sym, ap, ◌∙◌, append-nil, append_assoc}
use Rattle.std.proofs.lemmas.List.{map-append, Elements.filter-append}
use Rattle.ert_table.proofs.{Looks.can_step, Calls.{step_takes_place, takes_place_then}, Parts.stepped}
use Rattle.ert_defs.proofs.Runs.{state-append, exit_stays}
use Rattle.ert_defs.specs.{Entries.mark_entry, States.{State, state}, declared.entry.Actor.TheVariants.Caller, declared.entry.Entry.Entry, declared.mail.Mail.Mail, declared.settings.Settings.Settings}
use Rattle.ert_table.specs.{Calls.IsMade, Takes.{Appends, TakesPlace}, declared.view.View.View}
use Rattle.ert_mail.proofs.Listing.{listed_on}
use Rattle.ert_mail.specs.{Lists.{AreListed, HaveMailFrom, LooksForMail, exited_from, exits_seen, is_waiting, with_mail}, Mailboxes.Mailbox, Turns.TurnRow}

-- a row is gone through up to here: some processes are passed, and of these those with mail are found exited
pub record Passes (first by : ℕ) (row later : List ℕ) (s : State) (es : List Entry) : Type 0 where
  pub passed : List ℕ
  pub was : row ≡ passed ++ later
  pub entries : es ≡ exits_seen first by (with_mail first s passed)

-- whether one more that is passed has mail
with_one : (first : ℕ) (s : State) (passed : List ℕ) (p : ℕ) (b : Bool) (more : List ℕ) → is_waiting (s.mails (first + p)).queue ≡ b
    → filter (λ q. is_waiting (s.mails (first + q)).queue) (p ∷ []) ≡ more → with_mail first s (passed ++ p ∷ []) ≡ with_mail first s passed ++ more
with_one first s passed p b more is one =
    filter-append (λ q. is_waiting (s.mails (first + q)).queue) passed (p ∷ []) ∙ ap (λ l. with_mail first s passed ++ l) one

-- one that has no mail is passed
pub passed_more : (g : Settings) (v u : View) (first by p : ℕ) (row held later : List ℕ) (s : State) → s ≡ state g v.front → held ≡ p ∷ later
    → (s.mails (first + p)).queue ≡ [] → IsMade g v (Passes first by row held) u → IsMade g v (Passes first by row later) u
passed_more g v u first by p row held later s same is none made =
    let passed : List ℕ = made.allowed.passed in
    let t : State = state g v.front in
    let test : is_waiting (t.mails (first + p)).queue ≡ false =
    ap (λ (r : State). is_waiting (r.mails (first + p)).queue) (sym same) ∙ ap is_waiting none in
    record {
      entries = made.entries;
      allowed = record {
        passed = passed ++ p ∷ [];
        was = made.allowed.was ∙ (ap (λ l. passed ++ l) is ∙ sym (append_assoc passed (p ∷ []) later));
        entries = made.allowed.entries
            ∙ ap (exits_seen first by) (sym (with_one first t passed p false [] test (ap (λ b. cond b (p ∷ []) []) test) ∙ append-nil (with_mail first t passed)));
      };
      call = made.call;
    }

-- one more is found exited
pub looked_more : (g : Settings) (v u w : View) (first by p : ℕ) (row held later : List ℕ) (s : State) → s ≡ state g v.front → held ≡ p ∷ later
    → is_waiting (s.mails (first + p)).queue ≡ true → IsMade g v (Passes first by row held) u
    → Appends g u (mark_entry (Caller by) (first + p) false true) w → IsMade g v (Passes first by row later) w
looked_more g v u w first by p row held later s same is some made step =
    let e : Entry = mark_entry (Caller by) (first + p) false true in
    let passed : List ℕ = made.allowed.passed in
    let t : State = state g v.front in
    let test : is_waiting (t.mails (first + p)).queue ≡ true = ap (λ (r : State). is_waiting (r.mails (first + p)).queue) (sym same) ∙ some in
    record {
      entries = made.entries ++ e ∷ [];
      allowed = record {
        passed = passed ++ p ∷ [];
        was = made.allowed.was ∙ (ap (λ l. passed ++ l) is ∙ sym (append_assoc passed (p ∷ []) later));
        entries = ap (λ l. l ++ e ∷ []) made.allowed.entries
            ∙ (sym (map-append (λ n. mark_entry (Caller by) (first + n) false true) (with_mail first t passed) (p ∷ []))
            ∙ ap (exits_seen first by) (sym (with_one first t passed p true (p ∷ []) test (ap (λ b. cond b (p ∷ []) []) test))));
      };
      call = takes_place_then g v u w made.entries (e ∷ []) made.call (step_takes_place g u e w step);
    }

-- one is found alive
pub looked_last : (g : Settings) (v u w : View) (first by p : ℕ) (row held later after : List ℕ) → held ≡ p ∷ later → after ≡ later ++ p ∷ []
    → IsMade g v (Passes first by row held) u → Appends g u (mark_entry (Caller by) (first + p) false false) w
    → IsMade g v (LooksForMail first by row (Some p) after) w
looked_last g v u w first by p row held later after is last made step =
    let e : Entry = mark_entry (Caller by) (first + p) false false in
    record {
      entries = made.entries ++ e ∷ [];
      allowed = record {
        passed = made.allowed.passed;
        later = later;
        was = made.allowed.was ∙ ap (λ l. made.allowed.passed ++ l) is;
        last = last;
        entries = ap (λ l. l ++ e ∷ []) made.allowed.entries;
      };
      call = takes_place_then g v u w made.entries (e ∷ []) made.call (step_takes_place g u e w step);
    }

-- or none is left
pub looked_all : (g : Settings) (v w : View) (first by : ℕ) (row later : List ℕ) → later ≡ [] → IsMade g v (Passes first by row later) w
    → IsMade g v (LooksForMail first by row None later) w
looked_all g v w first by row later none made = record {
  entries = made.entries;
  allowed = (
    none,
    made.allowed.entries
        ∙ ap (λ l. exits_seen first by (with_mail first (state g v.front) l))
        (sym (made.allowed.was ∙ (ap (λ l. made.allowed.passed ++ l) none ∙ append-nil made.allowed.passed))),
  );
  call = made.call;
}

no_exit : (b c : Bool) → (b || (c && false)) ≡ b
no_exit true c = refl
no_exit false true = refl
no_exit false false = refl

-- a look tells whether the process has exited
pub look_found : (g : Settings) (u w : View) (by p : ℕ) (was : Bool) → Appends g u (mark_entry (Caller by) p false was) w → (state g w.front).exited p ≡ was
look_found g u w by p was step =
    let e : Entry = mark_entry (Caller by) p false was in
    let found : was ≡ (state g (u.front ++ step.between)).exited p = (can_step g u e w step).found in
    ap (λ (s : State). s.exited p) (stepped g u e w step)
    ∙ (no_exit ((state g (u.front ++ step.between)).exited p) _ ∙ sym found)

-- who has exited stays so in a call
pub exits_on : (g : Settings) (v w : View) (es : List Entry) → TakesPlace g v es w → (p : ℕ) → (state g v.front).exited p ≡ true
    → (state g w.front).exited p ≡ true
exits_on g v w es call p gone =
    ap (λ h. (state g h).exited p) call.grown
    ∙ (ap (λ (s : State). s.exited p) (state-append g v.front call.later) ∙ exit_stays g p (state g v.front) call.later gone)

-- the processes are listed still after a look
pub listed_then : (g : Settings) (u w : View) (first by p : ℕ) (was : Bool) (row : TurnRow) (mails : List Mailbox)
    → Appends g u (mark_entry (Caller by) (first + p) false was) w → AreListed (exited_from first (state g u.front).exited) row mails
    → AreListed (exited_from first (state g w.front).exited) row mails
listed_then g u w first by p was row mails step all =
    let e : Entry = mark_entry (Caller by) (first + p) false was in
    listed_on (exited_from first (state g u.front).exited) (exited_from first (state g w.front).exited) row mails
    (λ q. exits_on g u w (e ∷ []) (step_takes_place g u e w step) (first + q)) all

-- the mailbox of a process has what the process has: none waits
pub none_there : (first : ℕ) (s : State) (mails : List Mailbox) (p : ℕ) (m : Mailbox) → HaveMailFrom first s mails → p < length mails → m ≡ slice_index_or mails p m
    → length m.held.queue ≡ 0 → (s.mails (first + p)).queue ≡ []
none_there first s mails p m have low is none = sym (have p m low) ∙ (ap (λ (x : Mailbox). x.held.queue) (sym is) ∙ empty m.held.queue none)
  where
    empty : (q : List Mail) → length q ≡ 0 → q ≡ []
    empty [] is = refl
    empty (x ∷ q) is = absurd cc

-- or some do
pub some_there : (first : ℕ) (s : State) (mails : List Mailbox) (p : ℕ) (m : Mailbox) → HaveMailFrom first s mails → p < length mails → m ≡ slice_index_or mails p m
    → length m.held.queue ≢ 0 → is_waiting (s.mails (first + p)).queue ≡ true
some_there first s mails p m have low is some =
    ap is_waiting (sym (have p m low)) ∙ (ap (λ (x : Mailbox). is_waiting x.held.queue) (sym is) ∙ waits m.held.queue some)
  where
    waits : (q : List Mail) → length q ≢ 0 → is_waiting q ≡ true
    waits [] is = absurd (is refl)
    waits (x ∷ q) is = refl
