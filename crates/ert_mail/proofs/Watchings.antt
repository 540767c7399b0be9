-- The steps of the calls on monitors.

use Rattle.std.proofs.Common.{◌≡◌, ℕ, ◌+◌, ◌≤◌, ℤ, Bool, true, [], ◌∷◌, ◌++◌, length, Result, Ok, Err, inl, inr, refl, ap, subst, ◌∙◌, eq-eqb}
use Rattle.std.proofs.lemmas.Bool.{cases_lt}
use Rattle.ert_defs.specs.{Entries.{off_entry, watch_entry, unwatch_entry, tell_entry}, Legal.Legal, Mails.{MailState, changes_of, told_of, without}, declared.entry.Actor.TheVariants.{MailOf, Caller}, declared.mail.Monitor.Monitor}
use Rattle.ert_defs.specs.{declared.settings.OffsetState.OffsetState, declared.settings.Settings.Settings}
use Rattle.ert_effects.specs.{MailCalls.{Monitors, Demonitors, Notifies}, declared.answers.MonitorErr.MonitorErr, declared.answers.MonitorErr.TheVariants.{Full, NoMemory as WantOfRoom}}
use Rattle.ert_table.specs.{Calls.IsMade, Held.is_held, Takes.Appends, declared.view.View.View}
use Rattle.ert_table.proofs.Makings.{none_made, step_made}
use Rattle.ert_mail.specs.Mailboxes.{Mailbox, MailboxStands, AreMany, IsMonitor}
use Rattle.ert_mail.proofs.Standing.{stands_step, stands_apart}

pub unwatch_made : (g : Settings) (v w : View) (by p monitor : ℕ) (was : Bool) → Appends g v (unwatch_entry by p monitor was) w
    → IsMade g v (Demonitors g by p monitor was) w
unwatch_made g v w by p monitor was step =
    step_made g v (unwatch_entry by p monitor was) w (Demonitors g by p monitor was) refl step

abbrev unwatched : ℕ → MailState → MailState
unwatched monitor has = record { queue = has.queue; monitors = without monitor has.monitors; next = has.next }

pub stands_unwatched : (g : Settings) (v w : View) (by monitor : ℕ) (was : Bool) (m n : Mailbox) → is_held v.actors (MailOf m.process) ≡ true
    → MailboxStands g v.front m → Appends g v (unwatch_entry by m.process monitor was) w → n.process ≡ m.process
    → n.held.queue ≡ m.held.queue → n.held.monitors ≡ without monitor m.held.monitors → n.held.next ≡ m.held.next → n.delivered ≡ m.delivered
    → MailboxStands g w.front n
stands_unwatched g v w by monitor was m n held stands step process queue monitors next delivered =
    stands_step g v (unwatch_entry by m.process monitor was) w m n (unwatched monitor) held stands step
    (λ s. rw (eq-eqb m.process m.process refl) refl) (rw (eq-eqb m.process m.process refl) refl) process queue monitors next delivered

pub full_made : (g : Settings) (v w : View) (by : ℕ) (m : Mailbox) (offset : ℤ) (offset_state : OffsetState) → MailboxStands g v.front m → AreMany m.held
    → Appends g v (off_entry (Caller by) offset offset_state) w → IsMade g v (Monitors g by m.process (Err Full)) w
full_made g v w by m offset offset_state stands many step =
    step_made g v (off_entry (Caller by) offset offset_state) w (Monitors g by m.process (Err Full))
    (record { offset = offset; offset_state = offset_state; full = subst AreMany stands.held many; entries = refl }) step

pub stands_full : (g : Settings) (v w : View) (by : ℕ) (m : Mailbox) (offset : ℤ) (offset_state : OffsetState) → is_held v.actors (MailOf m.process) ≡ true
    → MailboxStands g v.front m → Appends g v (off_entry (Caller by) offset offset_state) w → MailboxStands g w.front m
stands_full g v w by m offset offset_state held stands step = stands_apart g v (off_entry (Caller by) offset offset_state) w m held refl stands step

pub not_many : (m : MailState) → (AreMany m → ⊥) → m.next ≤ 4294967295
not_many m few = elim (cases_lt 4294967295 m.next) [
  | inl high ↦ absurd (few (inr high))
  | inr low ↦ low
]

pub watch_made : (g : Settings) (v w : View) (by p number : ℕ) (offset : ℤ) → number ≤ 4294967295
    → Appends g v (watch_entry by p number offset) w → IsMade g v (Monitors g by p (Ok number)) w
watch_made g v w by p number offset low step =
    step_made g v (watch_entry by p number offset) w (Monitors g by p (Ok number)) (record { offset = offset; low = low; entries = refl }) step

abbrev watched : ℕ → ℤ → MailState → MailState
watched number offset has = record {
  queue = has.queue;
  monitors = has.monitors ++ (record { number = number; told = offset }) ∷ [];
  next = number + 1;
}

pub stands_watched : (g : Settings) (v w : View) (by : ℕ) (made : Monitor) (m n : Mailbox) → is_held v.actors (MailOf m.process) ≡ true
    → MailboxStands g v.front m → Appends g v (watch_entry by m.process made.number made.told) w → n.process ≡ m.process
    → n.held.monitors ≡ m.held.monitors ++ made ∷ []
    → n.held.queue ≡ m.held.queue → n.held.next ≡ made.number + 1 → n.delivered ≡ m.delivered
    → MailboxStands g w.front n
stands_watched g v w by made m n held stands step process one_more queue next delivered =
    stands_step g v (watch_entry by m.process made.number made.told) w m n (watched made.number made.told) held stands step
    (λ s. rw (eq-eqb m.process m.process refl) refl) (rw (eq-eqb m.process m.process refl) refl) process queue one_more next delivered

pub tell_made : (g : Settings) (v w : View) (by put : ℕ) (m : Mailbox) (offset : ℤ) → MailboxStands g v.front m → put ≡ length (changes_of offset m.held.monitors)
    → Appends g v (tell_entry by m.process offset) w → IsMade g v (Notifies g by m.process (Ok put)) w
tell_made g v w by put m offset stands put_is step =
    step_made g v (tell_entry by m.process offset) w (Notifies g by m.process (Ok put))
    (record {
      offset = offset;
      put_is = put_is ∙ ap (λ (has : MailState). length (changes_of offset has.monitors)) stands.held;
      entries = refl;
    }) step

abbrev told_all : ℤ → MailState → MailState
told_all offset has =
    record { queue = has.queue ++ changes_of offset has.monitors; monitors = told_of offset has.monitors; next = has.next }

pub stands_told : (g : Settings) (v w : View) (by : ℕ) (offset : ℤ) (m n : Mailbox) → is_held v.actors (MailOf m.process) ≡ true
    → MailboxStands g v.front m → Appends g v (tell_entry by m.process offset) w → n.process ≡ m.process
    → n.held.queue ≡ m.held.queue ++ changes_of offset m.held.monitors → n.held.monitors ≡ told_of offset m.held.monitors
    → n.held.next ≡ m.held.next → n.delivered ≡ m.delivered
    → MailboxStands g w.front n
stands_told g v w by offset m n held stands step process queue monitors next delivered =
    stands_step g v (tell_entry by m.process offset) w m n (told_all offset) held stands step
    (λ s. rw (eq-eqb m.process m.process refl) refl) (rw (eq-eqb m.process m.process refl) refl) process queue monitors next delivered

-- a monitor was made or wasn't
pub monitor_made : (g : Settings) (v : View) (by process : ℕ) (answer : Result ℕ MonitorErr) (w : View) → Legal g v.front
    → IsMonitor g v by process answer w → IsMade g v (Monitors g by process answer) w
monitor_made g v by process (Ok number) w legal is = is
monitor_made g v by process (Err Full) w legal is = is
monitor_made g v by process (Err WantOfRoom) w legal is = none_made g v w (Monitors g by process (Err WantOfRoom)) legal is.allowed is.same
