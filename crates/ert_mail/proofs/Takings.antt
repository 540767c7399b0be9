-- The steps of a take.

use Rattle.std.proofs.Common.{◌≡◌, ℕ, Bool, true, false, [], ◌∷◌, Option, Some, None, refl, sym, ap, subst, ◌∙◌, eq-eqb}
use Rattle.ert_defs.specs.{Entries.{mark_entry, take_entry}, Mails.{MailState, first_of, others_of}, declared.entry.Actor.TheVariants.{MailOf, Caller}, declared.entry.Entry.Entry, declared.mail.Mail.Mail}
use Rattle.ert_defs.specs.{declared.settings.Settings.Settings}
use Rattle.ert_effects.specs.{MailCalls.Takes, declared.answers.Taken.Taken, declared.answers.Taken.TheVariants.{Mail as First, Empty, Exited}}
use Rattle.ert_table.specs.{Calls.IsMade, Takes.{MayStep, Appends}, declared.view.View.View}
use Rattle.ert_table.proofs.{Makings.step_made, Parts.{two_steps, held_on}}
use Rattle.ert_mail.specs.Mailboxes.{Mailbox, MailboxStands, IsCallers}
use Rattle.ert_mail.proofs.Standing.{stands_step, stands_apart}

-- what a take knows once it looked at the process, of the mailbox as it is kept
pub record IsMarked (g : Settings) (u : View) (by : ℕ) (m : Mailbox) : Type 0 where
  pub holds : IsCallers g u by m.process
  pub stands : MailboxStands g u.front m

pub marked : (g : Settings) (v u : View) (by : ℕ) (was : Bool) (m now : Mailbox) → m ≡ now → IsCallers g v by now.process → MailboxStands g v.front now
    → Appends g v (mark_entry (Caller by) m.process false was) u → IsMarked g u by m
marked g v u by was m now is holds stands step =
    let e : Entry = mark_entry (Caller by) m.process false was in
    let held : IsCallers g v by m.process = subst (λ (m : Mailbox). IsCallers g v by m.process) (sym is) holds in
    record {
      holds = record {
        caller = held_on g v e u (Caller by) step held.caller;
        below = held.below;
        mail = held_on g v e u (MailOf m.process) step held.mail;
      };
      stands = stands_apart g v e u m held.mail refl (subst (MailboxStands g v.front) (sym is) stands) step;
    }

pub exited_made : (g : Settings) (v u : View) (by p : ℕ) → Appends g v (mark_entry (Caller by) p false true) u → IsMade g v (Takes g by p Exited) u
exited_made g v u by p step = step_made g v (mark_entry (Caller by) p false true) u (Takes g by p Exited) refl step

-- the first message may be taken
pub may_take : (g : Settings) (u : View) (by : ℕ) (m : Mailbox) (got : Option Mail) → IsMarked g u by m
    → got ≡ first_of m.held.queue → MayStep g u (take_entry by m.process got)
may_take g u by m got at first = record {
  ours = (at.holds.caller, at.holds.mail);
  keeps = (at.holds.below, refl, at.stands.in_range);
  known = first ∙ ap (λ (has : MailState). first_of has.queue) at.stands.held;
}

-- the answer by the first message
abbrev taken_of : Option Mail → Taken
taken_of None = Empty
taken_of (Some mail) = First mail

taken_made : (g : Settings) (v u w : View) (by p : ℕ) (got : Option Mail) → Appends g v (mark_entry (Caller by) p false false) u
    → Appends g u (take_entry by p got) w → IsMade g v (Takes g by p (taken_of got)) w
taken_made g v u w by p None mark take = record {
  entries = mark_entry (Caller by) p false false ∷ (take_entry by p None ∷ []);
  allowed = refl;
  call = two_steps g v (mark_entry (Caller by) p false false) u (take_entry by p None) w mark take;
}
taken_made g v u w by p (Some mail) mark take = record {
  entries = mark_entry (Caller by) p false false ∷ (take_entry by p (Some mail) ∷ []);
  allowed = refl;
  call = two_steps g v (mark_entry (Caller by) p false false) u (take_entry by p (Some mail)) w mark take;
}

pub first_made : (g : Settings) (v u w : View) (by p : ℕ) (got : Option Mail) (mail : Mail) → got ≡ Some mail
    → Appends g v (mark_entry (Caller by) p false false) u → Appends g u (take_entry by p got) w → IsMade g v (Takes g by p (First mail)) w
first_made g v u w by p got mail is mark take =
    subst (λ answer. IsMade g v (Takes g by p answer) w) (ap taken_of is) (taken_made g v u w by p got mark take)

pub empty_made : (g : Settings) (v u w : View) (by p : ℕ) (got : Option Mail) → got ≡ None
    → Appends g v (mark_entry (Caller by) p false false) u → Appends g u (take_entry by p got) w → IsMade g v (Takes g by p Empty) w
empty_made g v u w by p got is mark take =
    subst (λ answer. IsMade g v (Takes g by p answer) w) (ap taken_of is) (taken_made g v u w by p got mark take)

-- a mailbox stands after its first message was taken off
abbrev without_first : MailState → MailState
without_first has = record { queue = others_of has.queue; monitors = has.monitors; next = has.next }

pub stands_taken : (g : Settings) (u w : View) (by : ℕ) (m n : Mailbox) (got : Option Mail) → IsMarked g u by m
    → Appends g u (take_entry by m.process got) w → n.process ≡ m.process
    → n.held.queue ≡ others_of m.held.queue → n.held.monitors ≡ m.held.monitors → n.held.next ≡ m.held.next → n.delivered ≡ m.delivered
    → MailboxStands g w.front n
stands_taken g u w by m n got at step process queue monitors next delivered =
    stands_step g u (take_entry by m.process got) w m n without_first at.holds.mail at.stands step
    (λ s. rw (eq-eqb m.process m.process refl) refl) (rw (eq-eqb m.process m.process refl) refl) process
    queue monitors next delivered
