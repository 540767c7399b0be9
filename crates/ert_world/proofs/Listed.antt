-- The processes that are listed since their mailboxes may have mail, as mailboxes change.

use Rattle.std.proofs.Common.{◌≡◌, ◌≢◌, ℕ, ◌<◌, Bool, true, false, List, [], ◌∷◌, ◌++◌, length, Option, Some, None, IfSome, option_map, slice_index_or, refl, sym, ap, subst, ◌∙◌, append-nil}
use Rattle.std.specs.Prelude.{slice_set}
use Rattle.ert_defs.proofs.Runs.{state-append, exit_stays}
use Rattle.ert_defs.specs.{States.{State, state}, declared.entry.Entry.Entry, declared.mail.Mail.Mail, declared.settings.Settings.Settings}
use Rattle.ert_effects.specs.{Ways.{Growth, Way, Grows}, declared.answers.Taken.Taken, declared.answers.Taken.TheVariants.{Mail as First, Empty, Exited}}
use Rattle.ert_mail.proofs.Listing.{listed_less, listed_on, listed_put, with_new, with_there}
use Rattle.ert_mail.specs.{Turns.{is_listed, TurnRow}, Lists.with_listed, Mailboxes.{Mailbox, IsTaken}}
use Rattle.ert_table.specs.{Desks.{settings_of, front_of}, declared.desk.Desk.Desk, declared.desk.Pass.Pass}
use Rattle.ert_timers.proofs.Passing.{loses_none}
use Rattle.ert_world.proofs.{Calls.{Has, Does, does_at, seen_at, processes_at}, CancelCalls.{DoesCancel, does_cancel_at}}
use Rattle.ert_world.specs.{Parts.AllParts, Stepping.forgotten_on, Worlds.{Seen, seen, AreKept, AreSound, ForgetsCancelled, Goes, ListAll, TurnsGrow}, declared.world.World.TheInside.Inside}

-- each mailbox has a place in the list
pub list_low : (s : State) (list : Option TurnRow) (mails : List Mailbox) (p : ℕ) → ListAll s list mails → p < length mails
    → IfSome list (λ (row : TurnRow). p < row.bound)
list_low s None mails p all low = tt
list_low s (Some row) mails p all low = subst (λ n. p < n) (sym all.counted) low

-- a process is listed, and then its mailbox changes
listed_then : (s : State) (list : Option TurnRow) (mails : List Mailbox) (p : ℕ) (new : Mailbox) → ListAll s list mails → p < length mails
    → ListAll s (option_map (λ (row : TurnRow). with_listed row p) list) (slice_set mails p new)
listed_then s None mails p new all low = tt
listed_then s (Some row) mails p new all low = listed_put s.exited row mails p new all low

pub listed_now : (s : State) (list now : Option TurnRow) (mails : List Mailbox) (p : ℕ) (new : Mailbox)
    → now ≡ option_map (λ (row : TurnRow). with_listed row p) list → ListAll s list mails → p < length mails → ListAll s now (slice_set mails p new)
listed_now s list now mails p new is all low =
    subst (λ (l : Option TurnRow). ListAll s l (slice_set mails p new)) (sym is) (listed_then s list mails p new all low)

-- a mailbox gets no mail
pub listed_kept : (s : State) (list : Option TurnRow) (mails : List Mailbox) (p : ℕ) (old new : Mailbox) → ListAll s list mails → p < length mails
    → old ≡ slice_index_or mails p old → (new.held.queue ≢ [] → old.held.queue ≢ []) → ListAll s list (slice_set mails p new)
listed_kept s None mails p old new all low is less = tt
listed_kept s (Some row) mails p old new all low is less = listed_less s.exited row mails p old new all low is less

-- more processes may have exited
list_grown : (g : Settings) (h m : List Entry) (list : Option TurnRow) (mails : List Mailbox) → ListAll (state g h) list mails
    → ListAll (state g (h ++ m)) list mails
list_grown g h m None mails all = tt
list_grown g h m (Some row) mails all =
    listed_on (state g h).exited (state g (h ++ m)).exited row mails
    (λ p gone. ap (λ (s : State). s.exited p) (state-append g h m) ∙ exit_stays g p (state g h) m gone) all

-- the row is no part that stands for a history
pub with_row : {d : Desk} {q : Pass} {next : ℕ} {parts : AllParts} (list : Option TurnRow) → AreSound d q next parts
    → AreSound d q next (record parts { turns = list })
with_row list sound = record {
  fit = record {
    belongs = sound.fit.belongs;
    holds = sound.fit.holds;
    stand = record {
      legal = sound.fit.stand.legal;
      keeper = sound.fit.stand.keeper;
      wheels = sound.fit.stand.wheels;
      inboxes = sound.fit.stand.inboxes;
      mails = sound.fit.stand.mails;
      scheds = sound.fit.stand.scheds;
    };
  };
  tidy = sound.tidy;
}

-- a world keeps its parts and its list where its history grows
pub kept_by : {before : Seen} (b : Inside) {e : Desk} {q : Pass} {next : ℕ} {parts : AllParts} {call : Growth} (list : Option TurnRow)
    → seen_at e b ≡ before → AreSound e q next parts → Grows call before.history (front_of q)
    → ListAll (state (settings_of e) (front_of b.pass)) list parts.mails → AreKept e q next (record parts { turns = list })
kept_by {before} b {e} {q} {next} {parts} {call} list is sound grows all = record {
  sound = with_row list sound;
  listed = subst (λ h. ListAll (state (settings_of e) h) list parts.mails) (ap (λ (w : Seen). w.history ++ grows.piece) is ∙ sym grows.grown)
      (list_grown (settings_of e) (front_of b.pass) grows.piece list parts.mails all);
}

-- a process that is put last keeps the places of the others
listed_grows : (list : Option TurnRow) (p : ℕ) → TurnsGrow list (option_map (λ (row : TurnRow). with_listed row p) list)
listed_grows None p = refl
listed_grows (Some row) p = at (is_listed row p) refl
  where
    at : (b : Bool) → is_listed row p ≡ b → TurnsGrow (Some row) (Some (with_listed row p))
    at true is =
        ([], ap (λ (r : TurnRow). Some r) (with_there row p is ∙ ap (λ (held : List ℕ). let r : TurnRow = record row { held = held } in r) (sym (append-nil row.held))))
    at false is = (p ∷ [], ap (λ (r : TurnRow). Some r) (with_new row p is))

pub listed_grown : (list now : Option TurnRow) (p : ℕ) → now ≡ option_map (λ (row : TurnRow). with_listed row p) list → TurnsGrow list now
listed_grown list now p put = subst (TurnsGrow list) (sym put) (listed_grows list p)

pub turns_put : (before : Seen) (list now : Option TurnRow) (p : ℕ) → list ≡ before.turns → now ≡ option_map (λ (row : TurnRow). with_listed row p) list
    → TurnsGrow before.turns now
turns_put before list now p is put = subst (λ (o : Option TurnRow). TurnsGrow o now) is (listed_grown list now p put)

-- what was forgotten is so whatever the row is
forgets_row : {old : Seen} (new : Seen) (list : Option TurnRow) → ForgetsCancelled old new → ForgetsCancelled old (record new { turns = list })
forgets_row {old} new list forgets = record {
  piece = forgets.piece;
  grown = forgets.grown;
  forgotten = forgotten_on new (record new { turns = list }) _ (λ i d. loses_none (slice_index_or new.wheels i d)) forgets.forgotten;
}

goes_row : {old : Seen} {call : Way → Growth} (new : Seen) (list : Option TurnRow) → TurnsGrow old.turns list → Goes old call new
    → Goes old call (record new { turns = list })
goes_row new list grows goes = record {
  grows = goes.grows;
  lone = goes.lone;
  legal = goes.legal;
  table = goes.table;
  settings = goes.settings;
  clock = goes.clock;
  next = goes.next;
  turns = grows;
}

-- a call before which a process was put last
pub relisted : {before : Seen} {d : Desk} {q : Pass} {next : ℕ} {parts : AllParts} {call : Seen → Way → Growth} (list : Option TurnRow)
    → TurnsGrow before.turns list → Does before d q next parts call → Does before d q next (record parts { turns = list }) call
relisted {before} {d} {q} {next} {parts} {call} list grows done = record {
  fit = with_row list done.fit;
  goes = goes_row (seen d q next parts.keeper parts.wheels parts.turns) list grows done.goes;
  forgets = forgets_row (seen d q next parts.keeper parts.wheels parts.turns) list done.forgets;
}

pub does_listed : {before : Seen} {d e : Desk} {q : Pass} {next : ℕ} {parts : AllParts} {call : Seen → Way → Growth} (list : Option TurnRow)
    → TurnsGrow before.turns list → d ≡ e → Does before d q next parts call → Does before e q next (record parts { turns = list }) call
does_listed list grows same done = relisted list grows (does_at same done)

-- and one that may have cancelled a timer
pub does_cancel_listed : {before : Seen} {d e : Desk} {q : Pass} {next : ℕ} {parts : AllParts} {call : Seen → Way → Growth} (list : Option TurnRow)
    → TurnsGrow before.turns list → d ≡ e → DoesCancel before d q next parts call → DoesCancel before e q next (record parts { turns = list }) call
does_cancel_listed {before} {d} {e} {q} {next} {parts} {call} list grows same done =
    let there : DoesCancel before e q next parts call = does_cancel_at same done in
    let end : Seen = seen e q next parts.keeper parts.wheels parts.turns in
    record {
      fit = with_row list there.fit;
      goes = goes_row end list grows there.goes;
      stays = record {
        table = there.stays.table;
        settings = there.stays.settings;
        next = there.stays.next;
        clock = there.stays.clock;
        turns = grows;
        rows = there.stays.rows;
        forgotten = forgets_row end list there.stays.forgotten;
      };
    }

-- each process has a mailbox
pub mails_low : (before : Seen) (b : Inside) (d : Desk) (i : ℕ) → Has before b d → i < before.settings.processes → i < length b.mails.items
mails_low before b d i has low = rw has.fit.stand.mails.counted (processes_at has i low)

-- a take brings no mail
pub taken_less : (before after : List Mail) (answer : Taken) → IsTaken before answer after → after ≢ [] → before ≢ []
taken_less before after (First mail) taken some = λ none. (let clash : mail ∷ after ≡ [] = sym taken ∙ none in cc)
taken_less before after Empty taken some = λ none. some taken.1
taken_less before after Exited taken some = λ none. some (taken ∙ none)
