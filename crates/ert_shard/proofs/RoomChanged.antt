-- The room of a mailbox of a shard or of its list of expired timers changes, and nothing else.

use Rattle.std.proofs.Common.{◌≡◌, ℕ, ◌-◌, [], List, slice_index_or, refl, sym, ap, subst, ◌∙◌}
use Rattle.std.specs.Prelude.{slice_set}
use Rattle.ert_defs.specs.{Mails.MailState, States.state, declared.entry.Entry.Entry, declared.settings.Settings.Settings}
use Rattle.ert_mail.proofs.Standing.{same_stands}
use Rattle.ert_mail.specs.Mailboxes.{Mailbox, IsSame, MailboxStands as MailStands}
use Rattle.ert_shard.proofs.Called.{mail_named, mails_back, place_low}
use Rattle.ert_shard.specs.Shards.{Share, IsHome, counted_from, ShardParts, AreShardPartsFit}
use Rattle.ert_table.specs.{Desks.{settings_of, front_of}, declared.desk.Desk.Desk, declared.desk.Pass.Pass}
use Rattle.ert_timers.specs.ExpiredLists.{Queue}
use Rattle.ert_world.proofs.{Listed.listed_kept, RoomChanged.{with_list, list_stands}}

-- a shard keeps its parts where a mailbox is what it was but for its room
pub room_changed : (d : Desk) (p : Pass) (s : Share) (parts : ShardParts) (process : ℕ) (old new : Mailbox) → AreShardPartsFit d p s parts → IsHome s process
    → old ≡ slice_index_or parts.mails (process - s.from) old → IsSame old new
    → AreShardPartsFit d p s (record parts { mails = slice_set parts.mails (process - s.from) new })
room_changed d p s parts process old new fit home lent same =
    let g : Settings = settings_of d in
    let h : List Entry = front_of p in
    let i : ℕ = process - s.from in
    let low = place_low fit process home in
    let was : MailStands g h old = subst (MailStands g h) (sym lent) (fit.stand.mails.stand i old low refl) in
    record {
      belongs = fit.belongs;
      holds = fit.holds;
      stand = record {
        legal = fit.stand.legal;
        wheel_is = fit.stand.wheel_is;
        wheel = fit.stand.wheel;
        inbox_is = fit.stand.inbox_is;
        inbox = fit.stand.inbox;
        sched_is = fit.stand.sched_is;
        sched = fit.stand.sched;
        mails = mails_back g h s [] parts.mails process new home (record {
          counted = fit.stand.mails.counted;
          named = fit.stand.mails.named;
          stand = λ j d below apart. fit.stand.mails.stand j d below refl;
        }) (same.process ∙ mail_named fit process old home lent) (same_stands g h old new same was);
        listed = listed_kept (counted_from s.from (state g h)) parts.list parts.mails i old new fit.stand.listed low lent
            (λ some none. some (ap (λ (m : MailState). m.queue) same.held ∙ none));
      };
      home = fit.home;
    }

-- a shard keeps its parts where its list of expired timers is what it was but for its room
pub list_room_changed : (d : Desk) (p : Pass) (s : Share) (parts : ShardParts) (new : Queue) → AreShardPartsFit d p s parts
    → new.rows ≡ parts.sched.expired.rows → AreShardPartsFit d p s (record parts { sched = with_list parts.sched new })
list_room_changed d p s parts new fit same = record {
  belongs = fit.belongs;
  holds = fit.holds;
  stand = record {
    legal = fit.stand.legal;
    wheel_is = fit.stand.wheel_is;
    wheel = fit.stand.wheel;
    inbox_is = fit.stand.inbox_is;
    inbox = fit.stand.inbox;
    sched_is = fit.stand.sched_is;
    sched = λ left. list_stands (settings_of d) (front_of p) parts.sched new (fit.stand.sched left) same;
    mails = fit.stand.mails;
    listed = fit.stand.listed;
  };
  home = fit.home;
}
