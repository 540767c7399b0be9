-- After a call that others stepped beside, all parts stand that weren't lent to it.

use Rattle.std.proofs.Common.{◌≡◌, ℕ, ◌<◌, true, false, List, [], ◌++◌, slice_index_or, refl, sym, ap, subst, ◌∙◌, append-nil}
use Rattle.ert_defs.specs.{Actors.{IsFree, of, has_actor}, declared.entry.Actor.Actor, declared.entry.Actor.TheVariants.{Keeper, Wheel, Inbox, Sched, MailOf}, declared.entry.Entry.Entry, declared.settings.Settings.Settings}
use Rattle.ert_mail.specs.{Inboxes.{Waiting, InboxStands}, Mailboxes.{Mailbox, MailboxStands as MailStands}}
use Rattle.ert_mail.proofs.LawsHold.{inbox_on, mail_on}
use Rattle.ert_timers.specs.{SchedParts.SchedStands, declared.sched_part.SchedPart.SchedPart, Parts.{Part, PartStands as WheelStands}}
use Rattle.ert_world.specs.{Parts.{AllParts, AreOrdered, Stand}, Worlds.{IsUnseated, HoldsRest}}
use Rattle.ert_table.proofs.{StandOn.keeper_on, Parts.{entries_after, not_of, free_of_others, free_later}}
use Rattle.ert_timers.proofs.{SchedParts.sched_on, LawsHold.stand_on as wheel_on}
use Rattle.ert_table.specs.{Calls.AreOnlyOf, Held.{is_held, IsActor}, Takes.TakesPlace, Views.Begins, declared.view.View.View}

-- the front before a call begins that after it
pub grown_by : (g : Settings) (v : View) (es : List Entry) (w : View) → TakesPlace g v es w → Begins v.front w.front
grown_by g v es w takes = record { later = takes.later; grown = takes.grown }

-- an actor that is held and wasn't lent has no more entries than before
pub own_kept : (g : Settings) (v : View) (es : List Entry) (w : View) (lent : List Actor) (a : Actor) → TakesPlace g v es w → AreOnlyOf lent es
    → is_held v.actors a ≡ true → is_held lent a ≡ false → of w.front a ≡ of v.front a
own_kept g v es w lent a takes only held apart =
    entries_after g v es w (λ e. has_actor e a) (λ e not. not_of v.actors e a not held) takes
    ∙ (ap (λ l. of v.front a ++ l) (free_of_others lent a es apart only) ∙ append-nil (of v.front a))

pub free_kept : (g : Settings) (v : View) (es : List Entry) (w : View) (lent : List Actor) (a : Actor) → (takes : TakesPlace g v es w) → AreOnlyOf lent es
    → is_held v.actors a ≡ true → is_held lent a ≡ false → IsFree takes.later a
unfolding grown_by
free_kept g v es w lent a takes only held apart =
    free_later a v.front w.front (grown_by g v es w takes) (own_kept g v es w lent a takes only held apart)

-- parts in order stand on, but for those that are lent
ordered_on : {X : Type 0} (number : X → ℕ) (old new : X → Type 0) (actor : ℕ → Actor) (lent : List Actor) (count : ℕ) (xs : List X)
    → ((x : X) → number x < count → is_held lent (actor (number x)) ≡ false → old x → new x)
    → AreOrdered number old actor [] count xs → AreOrdered number new actor lent count xs
ordered_on number old new actor lent count xs on ordered = record {
  counted = ordered.counted;
  named = ordered.named;
  stand = λ i d low apart.
      let is : i ≡ number (slice_index_or xs i d) = sym (ordered.named i d low) in
      on (slice_index_or xs i d) (subst (λ n. n < count) is low) (subst (λ n. is_held lent (actor n) ≡ false) is apart) (ordered.stand i d low refl);
}

pub others_stand : (g : Settings) (v : View) (es : List Entry) (w : View) (next : ℕ) (lent : List Actor) (parts : AllParts) → TakesPlace g v es w
    → AreOnlyOf lent es → HoldsRest g v.actors next → Stand g v.front [] parts → Stand g w.front lent parts
others_stand g v es w next lent parts takes only holds stand =
    let f : List Entry = v.front in
    let h : List Entry = w.front in
    let more : Begins f h = grown_by g v es w takes in
    let same : (a : Actor) → IsActor g a → IsUnseated next a → is_held lent a ≡ false → of h a ≡ of f a =
    λ a ranged mine apart. own_kept g v es w lent a takes only (holds.rest a ranged mine) apart in
    record {
      legal = takes.legal;
      keeper = λ apart. keeper_on g f h parts.keeper more (same Keeper tt tt apart) takes.legal (stand.keeper refl);
      wheels = ordered_on (λ (p : Part). p.number) (WheelStands g f) (WheelStands g h) Wheel lent g.schedulers parts.wheels
          (λ p low apart stands. wheel_on g f h p more (same (Wheel p.number) low tt apart) takes.legal stands) stand.wheels;
      inboxes = ordered_on (λ (q : Waiting). q.wheel) (InboxStands g f) (InboxStands g h) Inbox lent g.schedulers parts.inboxes
          (λ q low apart stands. inbox_on g f h q more (same (Inbox q.wheel) low tt apart) stands) stand.inboxes;
      mails = ordered_on (λ (m : Mailbox). m.process) (MailStands g f) (MailStands g h) MailOf lent g.processes parts.mails
          (λ m low apart stands. mail_on g f h m more (same (MailOf m.process) low tt apart) stands) stand.mails;
      scheds = ordered_on (λ (p : SchedPart). p.wheel) (SchedStands g f) (SchedStands g h) Sched lent g.schedulers parts.scheds
          (λ p low apart stands. sched_on g f h p more (same (Sched p.wheel) low tt apart) stands) stand.scheds;
    }
