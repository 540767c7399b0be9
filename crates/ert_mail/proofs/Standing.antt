-- A mailbox stands on after a step of the pass that holds it.

use Rattle.std.proofs.Common.{◌≡◌, ℕ, ◌+◌, ◌<◌, true, false, List, [], ◌∷◌, ◌++◌, length, filter, refl, sym, ap, subst, ◌∙◌, length-append, add-zero}
use Rattle.ert_defs.specs.{Actors.{has_actor, is_with, same_actor}, Mails.MailState, States.{State, next, state}, declared.entry.Actor.TheVariants.MailOf, declared.entry.Entry.Entry, declared.settings.Settings.Settings}
use Rattle.ert_table.specs.{Held.is_held, Takes.{Appends, TakesPlace}, declared.view.View.View}
use Rattle.ert_table.proofs.{Calls.step_takes_place, Holders.or_false, Parts.{not_of, entries_after, part_before, stepped}}
use Rattle.ert_laws.specs.Counts.{deliveries, delivers_to}
use Rattle.ert_mail.specs.Mailboxes.{Mailbox, IsSame, MailboxStands}

-- what isn't of a process's mailbox isn't delivered to it
pub undelivered : (p : ℕ) (e : Entry) → has_actor e (MailOf p) ≡ false → delivers_to p e ≡ false
undelivered p e none =
    let apart : is_with e.with (MailOf p) ≡ false = (or_false (same_actor e.by (MailOf p)) (is_with e.with (MailOf p)) none).1 in
    rw apart refl

pub deliveries_after : (g : Settings) (v : View) (es : List Entry) (w : View) (p : ℕ) → is_held v.actors (MailOf p) ≡ true → TakesPlace g v es w
    → deliveries p w.front ≡ deliveries p v.front + deliveries p es
deliveries_after g v es w p held call =
    ap length (entries_after g v es w (delivers_to p) (λ e not. undelivered p e (not_of v.actors e (MailOf p) not held)) call)
    ∙ length-append (filter (delivers_to p) v.front) (filter (delivers_to p) es)

-- what a process has at a step of a pass that holds its mailbox
pub mails_before : (g : Settings) (v : View) (e : Entry) (w : View) (p : ℕ) → is_held v.actors (MailOf p) ≡ true → (step : Appends g v e w)
    → (state g (v.front ++ step.between)).mails p ≡ (state g v.front).mails p
mails_before g v e w p held step = part_before g v e w (MailOf p) (λ (s : State). s.mails p) (λ s e none. rw none refl) held step

pub stands_at : (g : Settings) (v : View) (e : Entry) (w : View) (m n : Mailbox) → is_held v.actors (MailOf m.process) ≡ true
    → MailboxStands g v.front m → (step : Appends g v e w) → n.process ≡ m.process
    → n.held ≡ (next g (state g (v.front ++ step.between)) e).mails m.process
    → n.delivered ≡ m.delivered + deliveries m.process (e ∷ []) → MailboxStands g w.front n
stands_at g v e w m n held stands step process has delivered =
    let after = ap (λ (s : State). s.mails m.process) (stepped g v e w step) in
    let count = deliveries_after g v (e ∷ []) w m.process held (step_takes_place g v e w step) in
    record {
      in_range = rw process stands.in_range;
      held = has ∙ (sym after ∙ ap (λ p. (state g w.front).mails p) (sym process));
      delivered = delivered ∙ (ap (λ d. d + deliveries m.process (e ∷ [])) stands.delivered ∙ (sym count ∙ ap (λ p. deliveries p w.front) (sym process)));
    }

-- so does one that is what it was but for its room
pub same_stands : (g : Settings) (h : List Entry) (old new : Mailbox) → IsSame old new → MailboxStands g h old → MailboxStands g h new
same_stands g h old new same stands = record {
  in_range = subst (λ p. p < g.processes) (sym same.process) stands.in_range;
  held = same.held ∙ (stands.held ∙ ap (λ p. (state g h).mails p) (sym same.process));
  delivered = same.delivered ∙ (stands.delivered ∙ ap (λ p. deliveries p h) (sym same.process));
}

-- an entry makes this of what a process has
abbrev pub Turns : Settings → ℕ → Entry → (MailState → MailState) → Type 0
Turns g p e f = (s : State) → (next g s e).mails p ≡ f (s.mails p)

same_mail : (a b : MailState) → a.queue ≡ b.queue → a.monitors ≡ b.monitors → a.next ≡ b.next → a ≡ b
same_mail a b queue monitors next =
    ap (λ x. record { queue = x; monitors = a.monitors; next = a.next }) queue
    ∙ (ap (λ x. record { queue = b.queue; monitors = x; next = a.next }) monitors
    ∙ ap (λ x. record { queue = b.queue; monitors = b.monitors; next = x }) next)

pub stands_step : (g : Settings) (v : View) (e : Entry) (w : View) (m n : Mailbox) (f : MailState → MailState)
    → is_held v.actors (MailOf m.process) ≡ true → MailboxStands g v.front m → Appends g v e w → Turns g m.process e f
    → delivers_to m.process e ≡ false → n.process ≡ m.process → n.held.queue ≡ (f m.held).queue → n.held.monitors ≡ (f m.held).monitors
    → n.held.next ≡ (f m.held).next → n.delivered ≡ m.delivered → MailboxStands g w.front n
stands_step g v e w m n f held stands step makes none process queue monitors next delivered =
    let before = mails_before g v e w m.process held step in
    let count : deliveries m.process (e ∷ []) ≡ 0 = rw none refl in
    stands_at g v e w m n held stands step process
    (same_mail n.held (f m.held) queue monitors next ∙ (ap f (stands.held ∙ sym before) ∙ sym (makes (state g (v.front ++ step.between)))))
    (delivered ∙ (sym (add-zero m.delivered) ∙ ap (λ n. m.delivered + n) (sym count)))

-- an entry with another actor than a mailbox leaves it
pub stands_apart : (g : Settings) (v : View) (e : Entry) (w : View) (m : Mailbox) → is_held v.actors (MailOf m.process) ≡ true
    → has_actor e (MailOf m.process) ≡ false → MailboxStands g v.front m → Appends g v e w → MailboxStands g w.front m
stands_apart g v e w m held none stands step =
    stands_step g v e w m m (λ has. has) held stands step (λ s. rw none refl) (undelivered m.process e none) refl refl refl refl refl
