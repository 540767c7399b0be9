-- The steps by which a shard's scheduler takes requests from its inbox, and answers them to processes of its share.

use Rattle.std.proofs.Common.{◌≡◌, ℕ, ◌+◌, ◌-◌, ◌<◌, true, List, [], ◌∷◌, slice_index_or, Option, Some, None, Result, Ok, refl, sym, ap, subst, ◌∙◌}
use Rattle.std.specs.Option.{is_some}
use Rattle.std.specs.Prelude.{slice_set}
use Rattle.ert_defs.specs.{Legal.Legal, Mails.SchedState, States.{State, state, sched_of}, declared.entry.Actor.Actor, declared.entry.Actor.TheVariants.{Inbox, Sched, MailOf, Caller}, declared.mail.Request.Request}
use Rattle.ert_defs.specs.{declared.memory.NoMemory.NoMemory, declared.settings.Settings.Settings}
use Rattle.ert_effects.specs.RequestCalls.{Asks, Picks, Answers}
use Rattle.ert_mail.proofs.LawsHold.{asks_only, picks_only, answers_only}
use Rattle.ert_mail.specs.{Inboxes.{Waiting, InboxStands, sched_after_pick}, Mailboxes.{Mailbox, sched_after_answer, MailboxStands as MailStands}, Turns.TurnRow}
use Rattle.ert_world.specs.{Stepping.turns_same, Worlds.left_for}
use Rattle.ert_shard.proofs.{Called.{Did, Has, IsListedOn, finish, has_at, home_kept, losing, mail_named, mails_back, makes, place_low, same_rows, still}, Gone.{IsGone, gone_by}, Kept.{self_own, home_own}, Turned.{Had, had}}
use Rattle.ert_shard.specs.Shards.{Share, counted_from, IsHome, Owned, owned, ShardBy, ShardParts, AreShardPartsFit}
use Rattle.ert_table.specs.{Calls.IsMade, Desks.{settings_of, view_of, front_of, Belongs}, declared.desk.Desk.Desk, declared.desk.Pass.Pass}
use Rattle.ert_timers.specs.{ExpiredLists.Queue, SchedParts.SchedStands, declared.sched_part.SchedPart.SchedPart}
use Rattle.ert_world.proofs.{Gone.answers_hit, SchedCalls.sched_stands}

-- a request was put into the inbox, or there was no memory for it
pub asked : (before : Owned) (d e : Desk) (p q : Pass) (s : Share) (parts : ShardParts) (new : Waiting) (request : Request) (answer : Result (Unit {0}) NoMemory) → d ≡ e
    → owned e p s parts.wheel parts.list ≡ before → AreShardPartsFit e p s parts → Belongs d q → new.wheel ≡ parts.inbox.wheel → InboxStands (settings_of d) (front_of q) new
    → (Legal (settings_of d) (front_of p) → IsMade (settings_of d) (view_of p) (Asks (settings_of d) (s.number + 1) parts.inbox.wheel request answer) (view_of q))
    → Did before e q s (record parts { inbox = new }) (λ o. ShardBy o (λ g. Asks g (o.share.number + 1) o.share.number request answer))
asked before d e p q s parts new request answer same is fit belongs named stands made_w =
    let g : Settings = settings_of d in
    let n : ℕ = s.number in
    let has : Has before d p s parts = has_at same is fit in
    let one : parts.inbox.wheel ≡ n = fit.stand.inbox_is in
    let made : IsMade g (view_of p) (Asks g (n + 1) n request answer) (view_of q) =
    subst (λ i. IsMade g (view_of p) (Asks g (n + 1) i request answer) (view_of q)) one (made_w has.fit.stand.legal) in
    let lending : List Actor = Caller (n + 1) ∷ (Inbox n ∷ []) in
    let only = asks_only g (n + 1) n request answer (state g (front_of p)) made.entries made.allowed in
    still p parts (record parts { inbox = new }) same is refl
    (finish before d p q s parts (record parts { inbox = new }) made.entries lending
    (λ o. ShardBy o (λ g. Asks g (o.share.number + 1) o.share.number request answer)) has (turns_same parts.list) belongs made.call only
    (self_own (n + 1), (self_own n, tt))
    (home_kept before d p q s parts made.entries lending has made.call only refl)
    (λ stand. record {
      legal = stand.legal;
      wheel_is = stand.wheel_is;
      wheel = λ apart. stand.wheel refl;
      inbox_is = named ∙ one;
      inbox = λ apart. stands;
      sched_is = stand.sched_is;
      sched = λ apart. stand.sched refl;
      mails = record { counted = stand.mails.counted; named = stand.mails.named; stand = λ i d low apart. stand.mails.stand i d low refl };
      listed = stand.listed;
    })
    (makes d p q s parts made.entries (λ m g. Asks g (m + 1) m request answer) made.allowed))

-- the scheduler took a request into its hand, or there was none
pub picked : (before : Owned) (d e : Desk) (p q : Pass) (s : Share) (parts : ShardParts) (new : Waiting) (got : Option Request) (x : SchedPart) → d ≡ e
    → owned e p s parts.wheel parts.list ≡ before → AreShardPartsFit e p s parts → Belongs d q → new.wheel ≡ parts.inbox.wheel → InboxStands (settings_of d) (front_of q) new
    → IsMade (settings_of d) (view_of p) (Picks (settings_of d) parts.inbox.wheel got) (view_of q)
    → (state (settings_of d) (front_of q)).scheds parts.inbox.wheel ≡ sched_after_pick got ((state (settings_of d) (front_of p)).scheds parts.inbox.wheel)
    → x.wheel ≡ parts.sched.wheel → x.hand ≡ got → x.expired ≡ parts.sched.expired
    → Did before e q s (record parts { inbox = new; sched = x }) (λ o way. way (Inbox o.share.number ∷ []) (Picks o.settings o.share.number got))
picked before d e p q s parts new got x same is fit belongs named stands made_w sched wheel hand expired =
    let g : Settings = settings_of d in
    let n : ℕ = s.number in
    let st : State = state g (front_of p) in
    let has : Has before d p s parts = has_at same is fit in
    let one : parts.inbox.wheel ≡ n = fit.stand.inbox_is in
    let was : Had d p s parts.sched = had has in
    let at : x.wheel ≡ n = wheel ∙ was.wheel in
    let made : IsMade g (view_of p) (Picks g n got) (view_of q) = subst (λ i. IsMade g (view_of p) (Picks g i got) (view_of q)) one made_w in
    let sched_n : (state g (front_of q)).scheds n ≡ sched_after_pick got (st.scheds n) =
    subst (λ m. (state g (front_of q)).scheds m ≡ sched_after_pick got (st.scheds m)) one sched in
    let below : x.wheel < g.schedulers = rw at has.fit.holds.low in
    let now : SchedStands g (front_of q) x =
    sched_stands g (front_of q) x (sched_after_pick got (st.scheds n)) below (subst (λ m. (state g (front_of q)).scheds m ≡ sched_after_pick got (st.scheds n)) (sym at) sched_n)
    hand (ap (λ (f : Queue). f.rows) expired ∙ was.expired) in
    let lending : List Actor = Sched n ∷ (Inbox n ∷ []) in
    let only = picks_only g n got st made.entries made.allowed in
    still p parts (record parts { inbox = new; sched = x }) same is refl
    (finish before d p q s parts (record parts { inbox = new; sched = x }) made.entries lending
    (λ o way. way (Inbox o.share.number ∷ []) (Picks o.settings o.share.number got)) has (turns_same parts.list) belongs made.call only (self_own n, (self_own n, tt))
    (home_kept before d p q s parts made.entries lending has made.call only refl)
    (λ stand. record {
      legal = stand.legal;
      wheel_is = stand.wheel_is;
      wheel = λ apart. stand.wheel refl;
      inbox_is = named ∙ one;
      inbox = λ apart. stands;
      sched_is = at;
      sched = λ apart. now;
      mails = record { counted = stand.mails.counted; named = stand.mails.named; stand = λ i d low apart. stand.mails.stand i d low refl };
      listed = stand.listed;
    })
    (λ m grown mine. subst (Picks g n got st) (sym mine) made.allowed))

-- what is in the hand then
pub hand_picked : (d : Desk) (p q : Pass) (s : Share) (parts : ShardParts) (got : Option Request) → AreShardPartsFit d p s parts
    → (state (settings_of d) (front_of q)).scheds parts.inbox.wheel ≡ sched_after_pick got ((state (settings_of d) (front_of p)).scheds parts.inbox.wheel)
    → (sched_of (settings_of d) (front_of q) s.number).hand ≡ got
hand_picked d p q s parts got fit sched =
    ap (λ n. ((state (settings_of d) (front_of q)).scheds n).hand) (sym fit.stand.inbox_is) ∙ ap (λ (t : SchedState). t.hand) sched

-- the request in the hand was answered, and the hand is empty
pub answered_now : (before : Owned) (d : Desk) (p q : Pass) (s : Share) (parts : ShardParts) (list : Option TurnRow) (old new : Mailbox) (request : Request)
    (left : Option ℕ) (x : SchedPart) → Has before d p s parts → Belongs d q → IsHome s request.reply_to
    → old ≡ slice_index_or parts.mails (request.reply_to - s.from) old → new.process ≡ old.process → MailStands (settings_of d) (front_of q) new
    → IsMade (settings_of d) (view_of p) (Answers (settings_of d) s.number request (Ok left)) (view_of q)
    → (state (settings_of d) (front_of q)).scheds s.number ≡ sched_after_answer (Ok left) ((state (settings_of d) (front_of p)).scheds s.number)
    → x.wheel ≡ parts.sched.wheel → x.hand ≡ None → x.expired ≡ parts.sched.expired → IsListedOn parts (request.reply_to - s.from) new list
    → Did before d q s (record parts { mails = slice_set parts.mails (request.reply_to - s.from) new; sched = x; list = list })
    (λ o way. way (MailOf request.reply_to ∷ []) (Answers o.settings o.share.number request (Ok left)))
answered_now before d p q s parts list old new request left x has belongs home lent named stands made sched wheel empty expired listed =
    let g : Settings = settings_of d in
    let n : ℕ = s.number in
    let process : ℕ = request.reply_to in
    let st : State = state g (front_of p) in
    let was : Had d p s parts.sched = had has in
    let at : x.wheel ≡ n = wheel ∙ was.wheel in
    let one : old.process ≡ process = mail_named has.fit process old home lent in
    let below : x.wheel < g.schedulers = rw at has.fit.holds.low in
    let now : SchedStands g (front_of q) x =
    sched_stands g (front_of q) x (sched_after_answer (Ok left) (st.scheds n)) below (subst (λ m. (state g (front_of q)).scheds m ≡ sched_after_answer (Ok left) (st.scheds n)) (sym at) sched)
    empty (ap (λ (f : Queue). f.rows) expired ∙ was.expired) in
    let lending : List Actor = Sched n ∷ (MailOf process ∷ []) in
    let only = answers_only g n request (Ok left) st made.entries made.allowed in
    losing has (same_rows parts.wheel)
    (finish before d p q s parts (record parts { mails = slice_set parts.mails (process - s.from) new; sched = x; list = list }) made.entries lending
    (λ o way. way (MailOf request.reply_to ∷ []) (Answers o.settings o.share.number request (Ok left))) has listed.0 belongs made.call only (self_own n, (home_own s process home, tt))
    (home_kept before d p q s parts made.entries lending has made.call only refl)
    (λ stand. record {
      legal = stand.legal;
      wheel_is = stand.wheel_is;
      wheel = λ apart. stand.wheel refl;
      inbox_is = stand.inbox_is;
      inbox = λ apart. stand.inbox refl;
      sched_is = at;
      sched = λ apart. now;
      mails = mails_back g (front_of q) s [] parts.mails process new home
          (record { counted = stand.mails.counted; named = stand.mails.named; stand = stand.mails.stand }) (named ∙ one) stands;
      listed = listed.1 (counted_from s.from (state g (front_of q))) stand.listed (place_low has.fit process home);
    })
    (λ m grown mine. subst (Answers g n request (Ok left) st) (sym mine) made.allowed))

-- what was left, where a request cancelled its timer
left_some : (left : Option ℕ) → is_some left ≡ true → (n : ℕ) × (left ≡ Some n)
left_some None some = absurd cc
left_some (Some n) some = (n, refl)

-- so a timer of the shard's own wheel that a request cancelled is gone
pub asked_gone : (d : Desk) (p q : Pass) (s : Share) (parts : ShardParts) (request : Request) (left : Option ℕ) → AreShardPartsFit d p s parts
    → request.timer.wheel ≡ s.number → IsMade (settings_of d) (view_of p) (Answers (settings_of d) s.number request (Ok left)) (view_of q)
    → is_some (left_for request.kind left) ≡ true → IsGone (settings_of d) (front_of q) parts.wheel request.timer
asked_gone d p q s parts request left fit wheel made some =
    let g : Settings = settings_of d in
    let found = left_some (left_for request.kind left) some in
    let hit = answers_hit g s.number request left found.0 (state g (front_of p)) made.entries made.allowed found.1 in
    gone_by d p q s parts request.timer made.entries (Sched s.number ∷ (MailOf request.reply_to ∷ [])) fit wheel made.call
    (answers_only g s.number request (Ok left) (state g (front_of p)) made.entries made.allowed) refl hit.1
