-- A process with mail, and takes of several messages.

use Rattle.std.proofs.Common.{◌≡◌, ◌≢◌, ℕ, ◌<◌, Bool, true, false, List, [], ◌∷◌, ◌++◌, length, Option, Some, None, slice_index_or, refl, sym, ap, subst, ◌∙◌, append-nil, nat_lt, arith}
use Rattle.std.proofs.{Math.Nat.zero-add, lemmas.Bool.Decides.nat_tests}
use Rattle.std.specs.List.{range_with_len}
use Rattle.ert_defs.specs.{Mails.MailState, States.{State, state}, declared.entry.Actor.TheVariants.Caller, declared.entry.Entry.Entry, declared.mail.Mail.Mail, declared.settings.Settings.Settings}
use Rattle.ert_effects.specs.{MailCalls.Takes, Ways.{Way, Growth, Then}, declared.answers.Taken.Taken, declared.answers.Taken.TheVariants.{Mail as Took, Empty, Exited}}
use Rattle.ert_mail.specs.{Turns.{is_listed, TurnRow}, Lists.{AreListed, HaveMailFrom, IsNextIn, LooksForMail, exited_from, exits_seen, life_seen, with_mail}, Mailboxes.{Mailbox, mailbox_seen as box}}
use Rattle.ert_table.specs.{Calls.IsMade, Desks.{settings_of, view_of, front_of, state_of, Belongs}, declared.desk.Desk.Desk, declared.desk.Pass.Pass}
use Rattle.ert_world.proofs.{Calls.{Has, has_at, alone_called, parts_in, processes_at, seen_at}, Calm.IsQuiet, Alone.went, Composed.{goes_more, goes_then}, Listed.{mails_low, with_row}}
use Rattle.ert_world.specs.{Mailing.{mail_of, turns_of, FindsMail, IsNextMail, TakesMails, TakesSome}, Stepping.turns_same, Worlds.{Seen, seen, AreKept, AreSound, Goes, By, HasProcessExited, ListAll, way_of}}
use Rattle.ert_world.specs.{declared.mailing.TakeEnd.TheVariants.{Empty as FoundEmpty, Exited as HadExited}, declared.world.World.TheInside.Inside}
use Rattle.ert_mail.proofs.Rows.{list_any-every}

-- the messages of a mailbox are those of its process
queue_at : (before : Seen) (b : Inside) (d : Desk) (i : ℕ) (x : Mailbox) → Has before b d → i < before.settings.processes
    → (slice_index_or b.mails.items i x).held.queue ≡ mail_of before i
queue_at before b d i x has low =
    let g : Settings = settings_of d in
    let below : i < g.processes = processes_at has i low in
    let m : Mailbox = slice_index_or b.mails.items i x in
    ap (λ (s : MailState). s.queue) ((has.fit.stand.mails.stand i x below refl).held
    ∙ ap (λ n. (state g (front_of b.pass)).mails n) (has.fit.stand.mails.named i x below))
    ∙ ap (λ (w : Seen). mail_of w i) has.is

-- what is told of mailboxes is so of a world
next_told : (before : Seen) (b : Inside) (d : Desk) (mails : List Mailbox) (answer : Option ℕ) → Has before b d → mails ≡ b.mails.items
    → IsNextIn (state before.settings before.history).exited mails answer → IsNextMail before answer
next_told before b d mails (Some p) has same next =
    let mine = subst (λ (ms : List Mailbox). IsNextIn (state before.settings before.history).exited ms (Some p)) same next in
    let low : p < before.settings.processes = subst (λ (w : Seen). p < w.settings.processes) has.is (subst (λ n. p < n) has.fit.stand.mails.counted mine.0) in
    let none : Mailbox = box 0 [] [] 0 0 0 in
    (low, λ gone. (let clash : true ≡ false = sym gone ∙ mine.1 in cc), λ empty. mine.2 none (queue_at before b d p none has low ∙ empty))
next_told before b d mails None has same next =
    let mine = subst (λ (ms : List Mailbox). IsNextIn (state before.settings before.history).exited ms None) same next in
    let none : Mailbox = box 0 [] [] 0 0 0 in
    λ p low some. mine p none (mails_low before b d p has low) (λ empty. some (sym (queue_at before b d p none has low) ∙ empty))

-- looks at processes that have exited are so
seen_quiet : (gone : List ℕ) (es : List Entry) → IsQuiet (Caller 0 ∷ []) es → IsQuiet (Caller 0 ∷ []) (exits_seen 0 0 gone ++ es)
seen_quiet [] es quiet = quiet
seen_quiet (p ∷ gone) es quiet = let later = seen_quiet gone es quiet in record { only = (refl, later.only); calm = (refl, later.calm) }

-- a call goes on so whatever the row is that it leaves
goes_turned : {old new : Seen} {call : Way → Growth} (list : Option TurnRow) → Goes old call new
    → Goes (record old { turns = list }) call (record new { turns = list })
goes_turned {old} {new} {call} list goes = record {
  grows = goes.grows;
  lone = goes.lone;
  legal = goes.legal;
  table = goes.table;
  settings = goes.settings;
  clock = goes.clock;
  next = goes.next;
  turns = turns_same list;
}

-- looks are made by their caller alone, and cancel nothing
looks_quiet : (row after : List ℕ) (answer : Option ℕ) (s : State) (es : List Entry) → LooksForMail 0 0 row answer after s es → IsQuiet (Caller 0 ∷ []) es
looks_quiet row after (Some p) s es looks =
    subst (IsQuiet (Caller 0 ∷ [])) (sym looks.entries) (seen_quiet (with_mail 0 s looks.passed) (life_seen 0 0 p) (record { only = (refl, tt); calm = (refl, tt) }))
looks_quiet row after None s es looks =
    subst (IsQuiet (Caller 0 ∷ [])) (sym (looks.1 ∙ sym (append-nil (exits_seen 0 0 (with_mail 0 s row))))) (seen_quiet (with_mail 0 s row) [] (record { only = tt; calm = tt }))

-- counted from process 0 are the processes themselves
pub from_zero : (exited : ℕ → Bool) → exited_from 0 exited ≡ exited
from_zero exited = λ i p. exited (zero-add p i)

pub next_at_zero : (exited : ℕ → Bool) (mails : List Mailbox) (answer : Option ℕ) → IsNextIn (exited_from 0 exited) mails answer
    → IsNextIn exited mails answer
next_at_zero exited mails answer = subst (λ (e : ℕ → Bool). IsNextIn e mails answer) (from_zero exited)

pub listed_at_zero : (exited : ℕ → Bool) (row : TurnRow) (mails : List Mailbox) → AreListed (exited_from 0 exited) row mails
    → AreListed exited row mails
listed_at_zero exited row mails = subst (λ (e : ℕ → Bool). AreListed e row mails) (from_zero exited)

-- each mailbox has what its process has
pub have_mail : (before : Seen) (b : Inside) (d : Desk) (mails : List Mailbox) → Has before b d → mails ≡ b.mails.items
    → HaveMailFrom 0 (state_of d b.pass) mails
have_mail before b d mails has same p x low =
    let g : Settings = settings_of d in
    let within : p < g.processes = subst (λ n. p < n) has.fit.stand.mails.counted (subst (λ (ms : List Mailbox). p < length ms) same low) in
    let m : Mailbox = slice_index_or b.mails.items p x in
    ap (λ (ms : List Mailbox). (slice_index_or ms p x).held.queue) same
    ∙ (ap (λ (s : MailState). s.queue) ((has.fit.stand.mails.stand p x within refl).held ∙ ap (λ n. (state g (front_of b.pass)).mails n) (has.fit.stand.mails.named p x within))
    ∙ ap (λ n. ((state g (front_of b.pass)).mails n).queue) (sym (zero-add p)))

-- who has mail and hasn't exited stands in the row
listed_told : (before : Seen) (b : Inside) (d : Desk) (row : TurnRow) (mails : List Mailbox) → Has before b d → mails ≡ b.mails.items
    → AreListed (state before.settings before.history).exited row mails
    → (p : ℕ) → p < before.settings.processes → mail_of before p ≢ [] → (HasProcessExited before p → ⊥) → is_listed row p ≡ true
listed_told before b d row mails has same are p low some lives =
    let mine : AreListed (state before.settings before.history).exited row b.mails.items =
    subst (λ (ms : List Mailbox). AreListed (state before.settings before.history).exited row ms) same are in
    let none : Mailbox = box 0 [] [] 0 0 0 in
    mine.each p none (mails_low before b d p has low) (λ empty. some (sym (queue_at before b d p none has low) ∙ empty))
    (at ((state before.settings before.history).exited p) refl)
  where
    at : (b : Bool) → (state before.settings before.history).exited p ≡ b → (state before.settings before.history).exited p ≡ false
    at true is = absurd (lives is)
    at false is = is

-- a process with mail was looked for
pub mail_found : (before : Seen) (b : Inside) (d e : Desk) (q : Pass) (mails : List Mailbox) (answer : Option ℕ) (held : List ℕ) (row : TurnRow) → d ≡ e
    → seen_at e b ≡ before → AreSound e b.pass b.next (parts_in b) → Belongs d q
    → IsMade (settings_of d) (view_of b.pass) (LooksForMail 0 0 held answer row.held) (view_of q) → mails ≡ b.mails.items
    → IsNextIn (state_of d q).exited mails answer → AreListed (state_of d q).exited row mails → held ≡ turns_of before.settings.processes before.turns
    → row.bound ≡ before.settings.processes
    → AreKept e q b.next (record (parts_in b) { turns = Some row }) × FindsMail before answer (seen e q b.next b.keeper b.wheels.items (Some row))
mail_found before b d e q mails answer held row same is sound belongs made these next listed turns bound =
    let all = alone_called before b d e q (λ g. LooksForMail 0 0 held answer row.held) same is sound belongs made (looks_quiet held row.held answer) in
    let now : Inside = record b { pass = q; list = Some row } in
    let end : Seen = seen e q b.next b.keeper b.wheels.items b.list in
    let kept : AreSound e q b.next (parts_in now) = with_row (Some row) all.fit in
    let are : AreListed (state_of e q).exited row mails = subst (λ (x : Desk). AreListed (state_of x q).exited row mails) same listed in (
      record { sound = kept; listed = subst (λ (ms : List Mailbox). AreListed (state_of e q).exited row ms) these are },
      record {
        row = row;
        is = refl;
        bound = bound;
        goes = subst (λ (l : List ℕ). Goes (record before { turns = Some row }) (By before (λ g. LooksForMail 0 0 l answer row.held)) (record end { turns = Some row }))
            turns (goes_turned (Some row) all.goes);
        wheels = ap (λ (w : Seen). w.wheels) is;
        next = next_told (seen_at e now) now e mails answer (has_at refl refl kept) these
            (subst (λ (x : Desk). IsNextIn (state_of x q).exited mails answer) same next);
        listed = listed_told (seen_at e now) now e row mails (has_at refl refl kept) these are;
      },
    )

-- the row that a search for mail starts with
pub record Starts (exited : ℕ → Bool) (list : Option TurnRow) (processes : ℕ) (mails : List Mailbox) (row : TurnRow) : Type 0 where
  pub held : row.held ≡ turns_of processes list
  pub bound : row.bound ≡ processes
  pub listed : AreListed exited row mails

-- it is the one that there is
pub starts_there : (s : State) (list taken : Option TurnRow) (processes : ℕ) (mails : List Mailbox) (row there : TurnRow) → length mails ≡ processes
    → ListAll s list mails → taken ≡ list → taken ≡ Some there → row ≡ there → Starts s.exited list processes mails row
starts_there s list taken processes mails row there many all same is found =
    let some : list ≡ Some row = sym same ∙ (is ∙ ap (λ (r : TurnRow). Some r) (sym found)) in
    let are : AreListed s.exited row mails = subst (λ (o : Option TurnRow). ListAll s o mails) some all in
    record { held = ap (turns_of processes) (sym some); bound = are.counted ∙ many; listed = are }

-- or one of all processes
pub starts_new : (exited : ℕ → Bool) (list taken : Option TurnRow) (processes : ℕ) (mails : List Mailbox) (row new : TurnRow) → length mails ≡ processes
    → taken ≡ list → taken ≡ None → row ≡ new → new ≡ record { bound = processes; held = range_with_len 0 processes } → Starts exited list processes mails row
starts_new exited list taken processes mails row new many same is found made =
    let whole : row ≡ record { bound = processes; held = range_with_len 0 processes } = found ∙ made in
    record {
      held = ap (λ (r : TurnRow). r.held) whole ∙ ap (turns_of processes) (sym (sym same ∙ is));
      bound = ap (λ (r : TurnRow). r.bound) whole;
      listed = record {
        counted = ap (λ (r : TurnRow). r.bound) whole ∙ sym many;
        each = λ p d low some lives. ap (λ (r : TurnRow). is_listed r p) whole ∙ (list_any-every processes p ∙ below p (subst (λ n. p < n) many low));
      };
    }
  where
    below : (p : ℕ) → p < processes → nat_lt p processes ≡ true
    below p low = grind (arith, nat_tests)

-- one more message was taken
pub took_more : (a b c : Seen) (process : ℕ) (mails : List Mail) (mail : Mail) (answer : Taken) → answer ≡ Took mail
    → Goes a (λ way. TakesMails a.settings way process mails) b → Goes b (By b (λ g. Takes g 0 process answer)) c
    → Goes a (λ way. TakesMails a.settings way process (mails ++ mail ∷ [])) c
took_more a b c process mails mail answer is one other =
    goes_more a b c (λ (g : Settings) (way : Way) (m : Mail). way [] (Takes g 0 process (Took m))) mails mail one
    (subst (λ (t : Taken). Goes b (By b (λ g. Takes g 0 process t)) c) is other)

-- a call that can be made so is the other one
goes_as : (a b : Seen) (call other : Way → Growth) → ((way : Way) (m : List Entry) → call way a.history m → other way a.history m)
    → Goes a call b → Goes a other b
goes_as a b call other so goes =
    let one = goes.grows in
    went a b other (record { piece = one.piece; grown = one.grown; made = so (way_of a) one.piece one.made })
    goes.legal goes.table goes.settings goes.clock goes.next goes.turns

-- and then there was none
pub found_empty : (a b c : Seen) (process most : ℕ) (mails : List Mail) (answer : Taken) → answer ≡ Empty → length mails < most
    → Goes a (λ way. TakesMails a.settings way process mails) b → Goes b (By b (λ g. Takes g 0 process answer)) c
    → Goes a (λ way. TakesSome a.settings way process most mails FoundEmpty) c
found_empty a b c process most mails answer is few one other =
    goes_as a c (λ way. Then (TakesMails a.settings way process mails) (way [] (Takes a.settings 0 process Empty)))
    (λ way. TakesSome a.settings way process most mails FoundEmpty) (λ way m made. (few, made))
    (goes_then a b c (λ way. TakesMails a.settings way process mails) (λ g way. way [] (Takes g 0 process Empty)) one
    (subst (λ (t : Taken). Goes b (By b (λ g. Takes g 0 process t)) c) is other))

-- or the process had exited
pub found_exited : (a b c : Seen) (process most : ℕ) (mails : List Mail) (answer : Taken) → answer ≡ Exited → length mails < most
    → Goes a (λ way. TakesMails a.settings way process mails) b → Goes b (By b (λ g. Takes g 0 process answer)) c
    → Goes a (λ way. TakesSome a.settings way process most mails HadExited) c
found_exited a b c process most mails answer is few one other =
    goes_as a c (λ way. Then (TakesMails a.settings way process mails) (way [] (Takes a.settings 0 process Exited)))
    (λ way. TakesSome a.settings way process most mails HadExited) (λ way m made. (few, made))
    (goes_then a b c (λ way. TakesMails a.settings way process mails) (λ g way. way [] (Takes g 0 process Exited)) one
    (subst (λ (t : Taken). Goes b (By b (λ g. Takes g 0 process t)) c) is other))
