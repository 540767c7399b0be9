-- How many rows a wheel of a world holds, and how many messages wait.

use Rattle.std.proofs.Common.{◌≡◌, ℕ, ◌<◌, length, count_by, slice_index_or, refl, sym, ap, subst, ◌∙◌}
use Rattle.std.specs.Option.{is_some}
use Rattle.ert_defs.specs.{Mails.MailState, States.state, declared.settings.Settings.Settings}
use Rattle.ert_mail.specs.Mailboxes.{Mailbox}
use Rattle.ert_table.specs.{Desks.{settings_of, front_of}, declared.desk.Desk.Desk}
use Rattle.ert_timers.specs.Parts.{Part}
use Rattle.ert_world.proofs.{Calls.Has, NextDue.part_at}
use Rattle.ert_world.specs.{Worlds.Seen, declared.world.World.TheInside.Inside}

pub rows_in : (before : Seen) (b : Inside) (d : Desk) (i : ℕ) (p : Part) (n : ℕ) → Has before b d → i < before.settings.schedulers
    → p ≡ slice_index_or b.wheels.items i p → n ≡ count_by is_some p.keys → (e : Part) → n ≡ count_by is_some (slice_index_or before.wheels i e).keys
rows_in before b d i p n has low lent told e =
    subst (λ (w : Seen). n ≡ count_by is_some (slice_index_or w.wheels i e).keys) has.is
    (subst (λ (x : Part). n ≡ count_by is_some x.keys) (part_at before b d i p has low lent e) told)

pub mail_waits : (before : Seen) (b : Inside) (d : Desk) (i : ℕ) (m : Mailbox) → Has before b d → i < before.settings.processes
    → m ≡ slice_index_or b.mails.items i m → length m.held.queue ≡ length ((state before.settings before.history).mails i).queue
mail_waits before b d i m has low lent =
    let g : Settings = settings_of d in
    let below : i < g.processes = subst (λ (w : Seen). i < w.settings.processes) (sym has.is) low in
    let stands = subst (λ (x : Mailbox). x.held ≡ (state g (front_of b.pass)).mails x.process) (sym lent) (has.fit.stand.mails.stand i m below refl).held in
    let named : m.process ≡ i = ap (λ (x : Mailbox). x.process) lent ∙ has.fit.stand.mails.named i m below in
    ap (λ (s : MailState). length s.queue) (stands ∙ ap (λ n. (state g (front_of b.pass)).mails n) named)
    ∙ ap (λ (w : Seen). length ((state w.settings w.history).mails i).queue) has.is
