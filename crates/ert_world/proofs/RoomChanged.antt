-- The room of a mailbox or of a list of expired timers changes, and nothing else.

use Rattle.std.proofs.Common.{◌≡◌, ℕ, ◌<◌, List, [], ◌∷◌, length, slice_index_or, refl, sym, ap, subst, ◌∙◌}
use Rattle.std.specs.Prelude.{slice_set}
use Rattle.ert_defs.specs.{Mails.MailState, States.state, declared.entry.Actor.TheVariants.{Sched, MailOf}, declared.entry.Entry.Entry, declared.settings.Settings.Settings}
use Rattle.ert_mail.proofs.Standing.{same_stands}
use Rattle.ert_mail.specs.Mailboxes.{Mailbox, IsSame, MailboxStands as MailStands}
use Rattle.ert_table.specs.{Desks.{settings_of, front_of}, declared.desk.Desk.Desk, declared.desk.Pass.Pass}
use Rattle.ert_timers.specs.{ExpiredLists.Queue, SchedParts.SchedStands, declared.sched_part.SchedPart.SchedPart}
use Rattle.ert_world.proofs.{Calls.mail_named, Listed.listed_kept, Returned.{lend, mail_back, sched_back}, SchedCalls.{sched_named, sched_has}}
use Rattle.ert_world.specs.{Parts.{AllParts, Stand}, Worlds.AreKept}

-- a world keeps its parts where a mailbox is what it was but for its room
pub room_changed : (d : Desk) (p : Pass) (next : ℕ) (parts : AllParts) (i : ℕ) (old new : Mailbox) → AreKept d p next parts
    → i < (settings_of d).processes → old ≡ slice_index_or parts.mails i old → IsSame old new
    → AreKept d p next (record parts { mails = slice_set parts.mails i new })
room_changed d p next parts i old new kept low lent same =
    let g : Settings = settings_of d in
    let h : List Entry = front_of p in
    let stand : Stand g h [] parts = kept.sound.fit.stand in
    let named : new.process ≡ i = same.process ∙ mail_named g h [] parts i old stand low lent in
    let stands : MailStands g h new = same_stands g h old new same (subst (MailStands g h) (sym lent) (stand.mails.stand i old low refl)) in
    let within : i < length parts.mails = rw stand.mails.counted low in
    record {
      sound = record {
        fit = record {
          belongs = kept.sound.fit.belongs;
          holds = kept.sound.fit.holds;
          stand = mail_back g h [] parts i new low named stands (lend g h (MailOf i ∷ []) parts stand);
        };
        tidy = kept.sound.tidy;
      };
      listed = listed_kept (state g h) parts.turns parts.mails i old new kept.listed within lent (λ some none. some (ap (λ (m : MailState). m.queue) same.held ∙ none));
    }

-- a scheduler's part with this list of expired timers
abbrev pub with_list : SchedPart → Queue → SchedPart
with_list part list = record { wheel = part.wheel; hand = part.hand; expired = list }

-- it stands where the timers of the list are what they were
pub list_stands : (g : Settings) (h : List Entry) (part : SchedPart) (list : Queue) → SchedStands g h part → list.rows ≡ part.expired.rows
    → SchedStands g h (with_list part list)
list_stands g h part list stands same = record { in_range = stands.in_range; hand = stands.hand; expired = same ∙ stands.expired }

-- a world keeps its parts where a list of expired timers is what it was but for its room
pub list_room_changed : (d : Desk) (p : Pass) (next : ℕ) (parts : AllParts) (i : ℕ) (part : SchedPart) (new : Queue)
    → AreKept d p next parts → i < (settings_of d).schedulers → part ≡ slice_index_or parts.scheds i part → new.rows ≡ part.expired.rows
    → AreKept d p next (record parts { scheds = slice_set parts.scheds i (with_list part new) })
list_room_changed d p next parts i part new kept low lent same =
    let g : Settings = settings_of d in
    let h : List Entry = front_of p in
    let stand : Stand g h [] parts = kept.sound.fit.stand in
    let named : part.wheel ≡ i = sched_named g h [] parts i part stand low lent in
    let stands : SchedStands g h (with_list part new) = list_stands g h part new (sched_has g h parts i part stand low lent) same in
    record {
      sound = record {
        fit = record {
          belongs = kept.sound.fit.belongs;
          holds = kept.sound.fit.holds;
          stand = sched_back g h [] parts i (with_list part new) low named stands (lend g h (Sched i ∷ []) parts stand);
        };
        tidy = kept.sound.tidy;
      };
      listed = kept.listed;
    }
