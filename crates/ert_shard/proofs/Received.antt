-- A process of a shard with mail, and takes of several messages.

use Rattle.std.proofs.Common.{◌≡◌, ◌≢◌, append-nil, ℕ, ◌+◌, ◌-◌, ◌<◌, true, false, Bool, nat_eq, eq-eqb, List, [], ◌∷◌, ◌++◌, length, Option, Some, None, slice_index_or, refl, sym, ap, subst, ◌∙◌, arith}
use Rattle.ert_defs.specs.{Mails.MailState, States.{State, state, HasExited}, declared.entry.Actor.TheVariants.Caller, declared.entry.Entry.Entry, declared.mail.Mail.Mail, declared.settings.Settings.Settings}
use Rattle.ert_effects.proofs.Growing.{grows_more}
use Rattle.ert_effects.specs.{MailCalls.Takes, Ways.{Then, Way, Growth}, declared.answers.Taken.Taken, declared.answers.Taken.TheVariants.{Mail as Took, Empty, Exited}}
use Rattle.ert_mail.specs.{Turns.{is_listed, TurnRow}, Lists.{AreListed, HaveMailFrom, IsNextIn, LooksForMail, exited_from, exits_seen, life_seen, with_mail}, Mailboxes.{Mailbox, MailboxStands, mailbox_seen as box}}
use Rattle.ert_world.specs.{Stepping.{turns_same, turns_then}, Mailing.turns_of, declared.mailing.TakeEnd.TheVariants.{Empty as FoundEmpty, Exited as HadExited}}
use Rattle.ert_shard.proofs.{Called.{Did, Has, alone_called, list_replaced, rows_then, place_low}, Stepped.{since, steps_as, steps_then}}
use Rattle.ert_shard.specs.{Receiving.{shard_mail, IsShardsNextMail, process_from, ShardFindsMail, CallerTakesMails, CallerTakesSome}, Shards.{Share, IsHome, Owned, owned, shard_way, ShardSteps, ShardBy, ShardParts, AreShardPartsFit}}
use Rattle.ert_table.specs.{Calls.{AreOnlyOf, IsMade}, Desks.{settings_of, view_of, front_of, state_of, Belongs}, declared.desk.Desk.Desk, declared.desk.Pass.Pass}

-- looks are made by their caller alone
looks_only : (first by : ℕ) (row after : List ℕ) (answer : Option ℕ) (st : State) (es : List Entry) → LooksForMail first by row answer after st es
    → AreOnlyOf (Caller by ∷ []) es
looks_only first by row after answer st es looks = at answer looks
  where
    self : nat_eq by by ≡ true
    self = eq-eqb by by refl

    only : (gone : List ℕ) (later : List Entry) → AreOnlyOf (Caller by ∷ []) later → AreOnlyOf (Caller by ∷ []) (exits_seen first by gone ++ later)
    only [] later rest = rest
    only (p ∷ gone) later rest = (rw self refl, only gone later rest)

    at : (answer : Option ℕ) → LooksForMail first by row answer after st es → AreOnlyOf (Caller by ∷ []) es
    at (Some p) found = subst (AreOnlyOf (Caller by ∷ [])) (sym found.entries) (only (with_mail first st found.passed) (life_seen first by p) (rw self refl, tt))
    at None none =
        subst (AreOnlyOf (Caller by ∷ [])) (sym (none.1 ∙ sym (append-nil (exits_seen first by (with_mail first st row))))) (only (with_mail first st row) [] tt)

-- the messages of a mailbox are those of its process
queue_at : (before : Owned) (d : Desk) (q : Pass) (s : Share) (parts : ShardParts) (i : ℕ) (x : Mailbox) → Has before d q s parts → i < length parts.mails
    → (slice_index_or parts.mails i x).held.queue ≡ shard_mail before (s.from + i)
queue_at before d q s parts i x has low =
    let g : Settings = settings_of d in
    let stands : MailboxStands g (front_of q) (slice_index_or parts.mails i x) = has.fit.stand.mails.stand i x low refl in
    ap (λ (m : MailState). m.queue) (stands.held ∙ ap (λ n. (state g (front_of q)).mails n) (has.fit.stand.mails.named i x low))
    ∙ ap (λ (o : Owned). shard_mail o (s.from + i)) has.is

-- what is told of mailboxes is so of a shard
next_told : (before : Owned) (d : Desk) (q : Pass) (s : Share) (parts : ShardParts) (answer : Option ℕ) → Has before d q s parts
    → IsNextIn (exited_from s.from (state (settings_of d) (front_of q)).exited) parts.mails answer → IsShardsNextMail before (process_from s.from answer)
next_told before d q s parts (Some p) has next =
    let counted = has.fit.stand.mails.counted in
    let low = next.0 in
    let home : IsHome s (s.from + p) = (omega arith, omega (arith, counted, low)) in
    let lives : (state before.settings before.history).exited (s.from + p) ≡ false =
    ap (λ (o : Owned). (state o.settings o.history).exited (s.from + p)) (sym has.is) ∙ next.1 in
    let none : Mailbox = box 0 [] [] 0 0 0 in (
      subst (λ (o : Owned). IsHome o.share (s.from + p)) has.is home,
      λ gone. (let clash : true ≡ false = sym gone ∙ lives in cc),
      λ empty. next.2 none (queue_at before d q s parts p none has low ∙ empty),
    )
next_told before d q s parts None has next = λ process home_in some.
    let home : IsHome s process = subst (λ (o : Owned). IsHome o.share process) (sym has.is) home_in in
    let i : ℕ = process - s.from in
    let low : i < length parts.mails = place_low has.fit process home in
    let from = home.0 in
    let sum : s.from + i ≡ process = omega (arith, from) in
    let none : Mailbox = box 0 [] [] 0 0 0 in
    let gone : (state (settings_of d) (front_of q)).exited (s.from + i) ≡ true =
    next i none low (λ empty. some (ap (λ n. shard_mail before n) (sym sum) ∙ (sym (queue_at before d q s parts i none has low) ∙ empty))) in
    ap (λ (o : Owned). (state o.settings o.history).exited process) (sym has.is) ∙ (ap (λ n. (state (settings_of d) (front_of q)).exited n) (sym sum) ∙ gone)

-- each mailbox has what its process has
pub have_mail : (before : Owned) (d : Desk) (q : Pass) (s : Share) (parts : ShardParts) (mails : List Mailbox) → Has before d q s parts → mails ≡ parts.mails
    → HaveMailFrom s.from (state_of d q) mails
have_mail before d q s parts mails has same p x low =
    let g : Settings = settings_of d in
    let within : p < length parts.mails = subst (λ (ms : List Mailbox). p < length ms) same low in
    let stands : MailboxStands g (front_of q) (slice_index_or parts.mails p x) = has.fit.stand.mails.stand p x within refl in
    ap (λ (ms : List Mailbox). (slice_index_or ms p x).held.queue) same
    ∙ ap (λ (m : MailState). m.queue) (stands.held ∙ ap (λ n. (state g (front_of q)).mails n) (has.fit.stand.mails.named p x within))

-- who has mail and hasn't exited stands in the row
listed_told : (before : Owned) (d : Desk) (q : Pass) (s : Share) (parts : ShardParts) (row : TurnRow) → Has before d q s parts
    → AreListed (exited_from s.from (state (settings_of d) (front_of q)).exited) row parts.mails
    → (process : ℕ) → IsHome before.share process → shard_mail before process ≢ [] → (HasExited before.settings before.history process → ⊥)
    → is_listed row (process - before.share.from) ≡ true
listed_told before d q s parts row has are process home_in some lives =
    let home : IsHome s process = subst (λ (o : Owned). IsHome o.share process) (sym has.is) home_in in
    let i : ℕ = process - s.from in
    let low : i < length parts.mails = place_low has.fit process home in
    let from = home.0 in
    let sum : s.from + i ≡ process = omega (arith, from) in
    let none : Mailbox = box 0 [] [] 0 0 0 in
    let there : is_listed row i ≡ true =
    are.each i none low (λ empty. some (ap (λ n. shard_mail before n) (sym sum) ∙ (sym (queue_at before d q s parts i none has low) ∙ empty)))
    (ap (λ n. (state (settings_of d) (front_of q)).exited n) sum
    ∙ (ap (λ (o : Owned). (state o.settings o.history).exited process) has.is ∙ at ((state before.settings before.history).exited process) refl)) in
    ap (λ (o : Owned). is_listed row (process - o.share.from)) (sym has.is) ∙ there
  where
    at : (b : Bool) → (state before.settings before.history).exited process ≡ b → (state before.settings before.history).exited process ≡ false
    at true is = absurd (lives is)
    at false is = is

-- steps go on so whatever the row is that they leave
steps_turned : {old new : Owned} {call : Way → Growth} (list : Option TurnRow) → ShardSteps old call new
    → ShardSteps (record old { turns = list }) call (record new { turns = list })
steps_turned {old} {new} {call} list steps = record {
  goes = record {
    grows = steps.goes.grows;
    legal = steps.goes.legal;
    table = steps.goes.table;
    settings = steps.goes.settings;
    share = steps.goes.share;
    turns = turns_same list;
  };
  rows = steps.rows;
}

-- what was found, and that the shard keeps its parts with this row
pub record Found (before : Owned) (e : Desk) (q : Pass) (s : Share) (parts : ShardParts) (answer : Option ℕ) : Type 0 where
  pub fit : AreShardPartsFit e q s parts
  pub finds : ShardFindsMail before (process_from s.from answer) (owned e q s parts.wheel parts.list)

-- a process with mail was looked for
pub mail_found : (before : Owned) (d e : Desk) (p q : Pass) (s : Share) (parts : ShardParts) (mails : List Mailbox) (row : TurnRow) (held : List ℕ) (answer : Option ℕ) → d ≡ e
    → owned e p s parts.wheel parts.list ≡ before → AreShardPartsFit e p s parts → Belongs d q
    → IsMade (settings_of d) (view_of p) (LooksForMail s.from (s.number + 1) held answer row.held) (view_of q) → mails ≡ parts.mails
    → AreListed (exited_from s.from (state_of d q).exited) row mails → IsNextIn (exited_from s.from (state_of d q).exited) mails answer
    → held ≡ turns_of (s.to - s.from) parts.list → s.from + row.bound ≡ s.to
    → Found before e q s (record parts { list = Some row }) answer
mail_found before d e p q s parts mails row held answer same is fit belongs made these listed next turns bound =
    let did : Did before e q s parts (λ o. ShardBy o (λ g. LooksForMail s.from (o.share.number + 1) held answer row.held)) =
    alone_called before d e p q s parts (λ n g. LooksForMail s.from (n + 1) held answer row.held) same is fit belongs made
    (looks_only s.from (s.number + 1) held row.held answer) in
    let listed_e : AreListed (exited_from s.from (state_of e q).exited) row parts.mails =
    subst (λ (ms : List Mailbox). AreListed (exited_from s.from (state_of e q).exited) row ms) these
    (subst (λ (x : Desk). AreListed (exited_from s.from (state_of x q).exited) row mails) same listed) in
    let next_e : IsNextIn (exited_from s.from (state_of e q).exited) parts.mails answer =
    subst (λ (ms : List Mailbox). IsNextIn (exited_from s.from (state_of e q).exited) ms answer) these
    (subst (λ (x : Desk). IsNextIn (exited_from s.from (state_of x q).exited) mails answer) same next) in
    let now : ShardParts = record parts { list = Some row } in
    let fit_now : AreShardPartsFit e q s now = list_replaced e q s parts (Some row) did.fit listed_e in
    let end : Owned = owned e q s parts.wheel parts.list in
    let share_is : s ≡ before.share = ap (λ (o : Owned). o.share) is in
    let turns_is : held ≡ turns_of (before.share.to - before.share.from) before.turns = turns ∙ ap (λ (o : Owned). turns_of (o.share.to - o.share.from) o.turns) is in
    record {
      fit = fit_now;
      finds = record {
        row = row;
        is = refl;
        bound = subst (λ (t : Share). t.from + row.bound ≡ t.to) share_is bound;
        place = answer;
        told = ap (λ (t : Share). process_from t.from answer) share_is;
        steps = subst (λ (l : List ℕ). ShardSteps (record before { turns = Some row })
            (ShardBy before (λ g. LooksForMail before.share.from (before.share.number + 1) l answer row.held)) (record end { turns = Some row })) turns_is
            (subst (λ (t : Share). ShardSteps (record before { turns = Some row })
            (ShardBy before (λ g. LooksForMail t.from (before.share.number + 1) held answer row.held)) (record end { turns = Some row })) share_is
            (steps_turned (Some row) did.steps));
        wheel = ap (λ (o : Owned). o.wheel) is;
        next = next_told (owned e q s parts.wheel (Some row)) e q s now answer (record { is = refl; fit = fit_now }) next_e;
        listed = listed_told (owned e q s parts.wheel (Some row)) e q s now row (record { is = refl; fit = fit_now }) listed_e;
      };
    }

-- one more message was taken
pub took_more : (a b c : Owned) (process : ℕ) (mails : List Mail) (mail : Mail) (answer : Taken) → answer ≡ Took mail
    → ShardSteps a (λ way. CallerTakesMails a.settings way (a.share.number + 1) process mails) b
    → ShardSteps b (ShardBy b (λ g. Takes g (b.share.number + 1) process answer)) c
    → ShardSteps a (λ way. CallerTakesMails a.settings way (a.share.number + 1) process (mails ++ mail ∷ [])) c
took_more a b c process mails mail answer is one other_in =
    let other = subst (λ (t : Taken). ShardSteps b (ShardBy b (λ g. Takes g (b.share.number + 1) process t)) c) is other_in in
    record {
      goes = record {
        grows = grows_more (λ (m : Mail). shard_way a [] (Takes a.settings (a.share.number + 1) process (Took m))) mails mail a.history b.history c.history one.goes.grows
            (since a b c (λ g n way. way [] (Takes g (n + 1) process (Took mail))) one.goes.settings one.goes.share other.goes.grows);
        legal = other.goes.legal;
        table = other.goes.table ∙ one.goes.table;
        settings = other.goes.settings ∙ one.goes.settings;
        share = other.goes.share ∙ one.goes.share;
        turns = turns_then a.turns b.turns c.turns one.goes.turns other.goes.turns;
      };
      rows = rows_then a.wheel b.wheel c.wheel one.rows other.rows;
    }

-- and then there was none
pub found_empty : (a b c : Owned) (process most : ℕ) (mails : List Mail) (answer : Taken) → answer ≡ Empty → length mails < most
    → ShardSteps a (λ way. CallerTakesMails a.settings way (a.share.number + 1) process mails) b
    → ShardSteps b (ShardBy b (λ g. Takes g (b.share.number + 1) process answer)) c
    → ShardSteps a (λ way. CallerTakesSome a.settings way (a.share.number + 1) process most mails FoundEmpty) c
found_empty a b c process most mails answer is few one other =
    steps_as a c (λ way. Then (CallerTakesMails a.settings way (a.share.number + 1) process mails) (way [] (Takes a.settings (a.share.number + 1) process Empty)))
    (λ way. CallerTakesSome a.settings way (a.share.number + 1) process most mails FoundEmpty) (λ m made. (few, made))
    (steps_then a b c (λ g n way. CallerTakesMails g way (n + 1) process mails) (λ g n way. way [] (Takes g (n + 1) process Empty)) one
    (subst (λ (t : Taken). ShardSteps b (ShardBy b (λ g. Takes g (b.share.number + 1) process t)) c) is other))

-- or the process had exited
pub found_exited : (a b c : Owned) (process most : ℕ) (mails : List Mail) (answer : Taken) → answer ≡ Exited → length mails < most
    → ShardSteps a (λ way. CallerTakesMails a.settings way (a.share.number + 1) process mails) b
    → ShardSteps b (ShardBy b (λ g. Takes g (b.share.number + 1) process answer)) c
    → ShardSteps a (λ way. CallerTakesSome a.settings way (a.share.number + 1) process most mails HadExited) c
found_exited a b c process most mails answer is few one other =
    steps_as a c (λ way. Then (CallerTakesMails a.settings way (a.share.number + 1) process mails) (way [] (Takes a.settings (a.share.number + 1) process Exited)))
    (λ way. CallerTakesSome a.settings way (a.share.number + 1) process most mails HadExited) (λ m made. (few, made))
    (steps_then a b c (λ g n way. CallerTakesMails g way (n + 1) process mails) (λ g n way. way [] (Takes g (n + 1) process Exited)) one
    (subst (λ (t : Taken). ShardSteps b (ShardBy b (λ g. Takes g (b.share.number + 1) process t)) c) is other))
