-- The steps of a world's schedulers on its inboxes, mailboxes and wheels.

use Rattle.std.proofs.Common.{◌≡◌, ℕ, ◌<◌, List, [], ◌∷◌, slice_index_or, Option, Some, None, Ok, refl, sym, ap, subst, ◌∙◌, append-nil}
use Rattle.std.specs.Prelude.{slice_set}
use Rattle.ert_effects.specs.{Chains.Hands, MailCalls.HandsOver, RequestCalls.{Picks, Answers}, Ways.{Growth, Way}, declared.answers.Handed.Handed}
use Rattle.ert_defs.specs.{Mails.{SchedState, first_of, others_of}, States.{State, state}, Timers.Row, declared.entry.Actor.Actor, declared.entry.Actor.TheVariants.{Wheel, Inbox, Sched, MailOf}, declared.entry.Entry.Entry}
use Rattle.ert_defs.specs.{declared.mail.Request.Request, declared.settings.Settings.Settings}
use Rattle.ert_mail.specs.{Inboxes.{Waiting, sched_after_pick, InboxStands}, Mailboxes.{Mailbox, HoldsMailboxAndSched, handed, sched_after_answer, MailboxStands as MailStands}, Turns.TurnRow}
use Rattle.ert_laws.proofs.{Requests.held_have_askers, RowRanges.first_placed}
use Rattle.ert_laws.specs.Ranges.{IsPlaced}
use Rattle.ert_mail.proofs.LawsHold.{handing_only, answers_only, picks_only}
use Rattle.ert_world.proofs.{Calm.{picks_calm, hands_calm}, Returned.{inbox_back, mail_back, sched_back}, Calls.{Has, Does, Makes, ComeBack, parts_in, exact, added, calm_called, called_with, inbox_named, mail_named, schedulers_at}}
use Rattle.ert_world.proofs.{CancelCalls.{DoesBut, finish_but}, Cancelled.answer_settles, Gone.answers_hit, Forgotten.answer_cancels, Standing.free_kept}
use Rattle.ert_timers.specs.{SchedParts.SchedStands, declared.sched_part.SchedPart.SchedPart, ExpiredLists.Queue}
use Rattle.ert_world.specs.{Parts.{AllParts, Stand}, Worlds.{Seen, seen, IsHandedIn, By, world_sched, cancelled_by}, declared.world.World.TheInside.Inside}
use Rattle.ert_table.specs.{Calls.IsMade, Desks.{settings_of, view_of, front_of, Belongs}, Takes.TakesPlace, declared.desk.Desk.Desk, declared.desk.Pass.Pass}
use Rattle.ert_timers.proofs.Settled.{expired_let_go, handed_free}

-- a scheduler's part stands that has what the state has
pub sched_stands : (g : Settings) (h : List Entry) (x : SchedPart) (t : SchedState) → x.wheel < g.schedulers → (state g h).scheds x.wheel ≡ t → x.hand ≡ t.hand
    → x.expired.rows ≡ t.expired → SchedStands g h x
sched_stands g h x t low is hand expired = record {
  in_range = low;
  hand = hand ∙ ap (λ (s : SchedState). s.hand) (sym is);
  expired = expired ∙ ap (λ (s : SchedState). s.expired) (sym is);
}

-- the scheduler's part at a place
pub sched_named : (g : Settings) (h : List Entry) (lent : List Actor) (parts : AllParts) (i : ℕ) (x : SchedPart) → Stand g h lent parts → i < g.schedulers
    → x ≡ slice_index_or parts.scheds i x → x.wheel ≡ i
sched_named g h lent parts i x stand low is = ap (λ (p : SchedPart). p.wheel) is ∙ stand.scheds.named i x low

pub sched_has : (g : Settings) (h : List Entry) (parts : AllParts) (i : ℕ) (x : SchedPart) → Stand g h [] parts → i < g.schedulers
    → x ≡ slice_index_or parts.scheds i x → SchedStands g h x
sched_has g h parts i x stand low is = subst (SchedStands g h) (sym is) (stand.scheds.stand i x low refl)

-- what the scheduler's part at a place has
pub record Had (b : Inside) (d : Desk) (n : ℕ) (part : SchedPart) : Type 0 where
  pub wheel : part.wheel ≡ n
  pub hand : part.hand ≡ ((state (settings_of d) (front_of b.pass)).scheds n).hand
  pub expired : part.expired.rows ≡ ((state (settings_of d) (front_of b.pass)).scheds n).expired

pub had : (before : Seen) (b : Inside) (d : Desk) (n : ℕ) (part : SchedPart) → Has before b d → n < before.settings.schedulers
    → part ≡ slice_index_or b.scheds.items n part → Had b d n part
had before b d n part has low lent =
    let g : Settings = settings_of d in
    let below : n < g.schedulers = schedulers_at has n low in
    let wheel : part.wheel ≡ n = sched_named g (front_of b.pass) [] (parts_in b) n part has.fit.stand below lent in
    let stands : SchedStands g (front_of b.pass) part = sched_has g (front_of b.pass) (parts_in b) n part has.fit.stand below lent in
    record {
      wheel = wheel;
      hand = stands.hand ∙ ap (λ m. ((state g (front_of b.pass)).scheds m).hand) wheel;
      expired = stands.expired ∙ ap (λ m. ((state g (front_of b.pass)).scheds m).expired) wheel;
    }

-- a scheduler's part stands after a step that made this of what it has
pub now_stands : (before : Seen) (b : Inside) (d : Desk) (q : Pass) (n : ℕ) (x : SchedPart) (t : SchedState) → Has before b d → n < before.settings.schedulers
    → x.wheel ≡ n → (state (settings_of d) (front_of q)).scheds n ≡ t → x.hand ≡ t.hand → x.expired.rows ≡ t.expired → SchedStands (settings_of d) (front_of q) x
now_stands before b d q n x t has low at made hand expired =
    let g : Settings = settings_of d in
    sched_stands g (front_of q) x t (rw at (schedulers_at has n low)) (subst (λ m. (state g (front_of q)).scheds m ≡ t) (sym at) made) hand expired

-- the process that is to get the answer to a request in a hand is in range
pub asker_low : (before : Seen) (b : Inside) (d : Desk) (n : ℕ) (request : Request) → Has before b d → (world_sched before n).hand ≡ Some request
    → request.reply_to < (settings_of d).processes
asker_low before b d n request has hand =
    held_have_askers (settings_of d) (front_of b.pass) n request has.fit.stand.legal
    (subst (λ (w : Seen). (world_sched w n).hand ≡ Some request) (sym has.is) hand)

-- the first expired timer is in range
pub expired_placed : (before : Seen) (b : Inside) (d : Desk) (n : ℕ) (expired : Row) → Has before b d → first_of (world_sched before n).expired ≡ Some expired
    → IsPlaced (settings_of d) n expired
expired_placed before b d n expired has first =
    first_placed (settings_of d) (front_of b.pass) n expired has.fit.stand.legal
    (subst (λ (w : Seen). first_of (world_sched w n).expired ≡ Some expired) (sym has.is) first)

-- a world holds a scheduler and a mailbox in range
pub sched_holds : (before : Seen) (b : Inside) (d : Desk) (n i p : ℕ) → Has before b d → n < (settings_of d).schedulers → i < (settings_of d).processes → p ≡ i
    → HoldsMailboxAndSched (settings_of d) (view_of b.pass) n p
sched_holds before b d n i p has low ranged named = record {
  sched = has.fit.holds.rest (Sched n) low tt;
  below = low;
  mail = has.fit.holds.rest (MailOf p) (rw named ranged) tt;
}

-- a scheduler took a request into its hand
pub pick_called : (before : Seen) (b : Inside) (d : Desk) (q : Pass) (i : ℕ) (old new : Waiting) (part x : SchedPart) (got : Option Request)
    → Has before b d → Belongs d q → i < before.settings.schedulers → old ≡ slice_index_or b.inboxes.items i old
    → part ≡ slice_index_or b.scheds.items i part → new.wheel ≡ old.wheel → InboxStands (settings_of d) (front_of q) new
    → IsMade (settings_of d) (view_of b.pass) (Picks (settings_of d) old.wheel got) (view_of q)
    → (state (settings_of d) (front_of q)).scheds old.wheel ≡ sched_after_pick got ((state (settings_of d) (front_of b.pass)).scheds old.wheel)
    → x.wheel ≡ part.wheel → x.hand ≡ got → x.expired ≡ part.expired
    → Does before d q b.next (record (parts_in b) { inboxes = slice_set b.inboxes.items i new; scheds = slice_set b.scheds.items i x }) (λ w. By w (λ g. Picks g i got))
pick_called before b d q i old new part x got has belongs low lent lent_part named stands made sched wheel hand expired =
    let g : Settings = settings_of d in
    let s : State = state g (front_of b.pass) in
    let below : i < g.schedulers = schedulers_at has i low in
    let one : old.wheel ≡ i = inbox_named g (front_of b.pass) [] (parts_in b) i old has.fit.stand below lent in
    let was : Had b d i part = had before b d i part has low lent_part in
    let made_i : IsMade g (view_of b.pass) (Picks g i got) (view_of q) = subst (λ n. IsMade g (view_of b.pass) (Picks g n got) (view_of q)) one made in
    let sched_i : (state g (front_of q)).scheds i ≡ sched_after_pick got (s.scheds i) = subst (λ n. (state g (front_of q)).scheds n ≡ sched_after_pick got (s.scheds n)) one sched in
    let at : x.wheel ≡ i = wheel ∙ was.wheel in
    let now : SchedStands g (front_of q) x = now_stands before b d q i x (sched_after_pick got (s.scheds i)) has low at sched_i hand (ap (λ (f : Queue). f.rows) expired ∙ was.expired) in
    let after : AllParts = record (parts_in b) { scheds = slice_set b.scheds.items i x } in
    called_with before b d q (record after { inboxes = slice_set b.inboxes.items i new }) (Sched i ∷ (Inbox i ∷ [])) (λ g. Picks g i got) has refl belongs made_i
    (picks_only g i got s made_i.entries made_i.allowed) (picks_calm g i got s made_i.entries made_i.allowed) (refl, (refl, tt)) refl refl
    (λ stand. inbox_back g (front_of q) [] after i new below (named ∙ one) stands (sched_back g (front_of q) (Inbox i ∷ []) (parts_in b) i x below at now stand))

-- a scheduler's part and a mailbox come back
mail_and_sched : (before : Seen) (b : Inside) (d : Desk) (q : Pass) (i n : ℕ) (old new : Mailbox) (x : SchedPart) → Has before b d
    → n < before.settings.schedulers → i < (settings_of d).processes → old ≡ slice_index_or b.mails.items i old
    → new.process ≡ old.process → MailStands (settings_of d) (front_of q) new → x.wheel ≡ n → SchedStands (settings_of d) (front_of q) x
    → ComeBack b d q (Sched n ∷ (MailOf i ∷ [])) (record (parts_in b) { mails = slice_set b.mails.items i new; scheds = slice_set b.scheds.items n x })
mail_and_sched before b d q i n old new x has low ranged lent named stands at now = λ stand.
    let g : Settings = settings_of d in
    let after : AllParts = record (parts_in b) { scheds = slice_set b.scheds.items n x } in
    let mine : new.process ≡ i = named ∙ mail_named g (front_of b.pass) [] (parts_in b) i old has.fit.stand ranged lent in
    mail_back g (front_of q) [] after i new ranged mine stands (sched_back g (front_of q) (MailOf i ∷ []) (parts_in b) n x (schedulers_at has n low) at now stand)

-- the request in the hand was answered, and the hand is empty
pub answered_now : (before : Seen) (b : Inside) (d : Desk) (q : Pass) (n : ℕ) (old new : Mailbox) (request : Request) (left : Option ℕ) (part x : SchedPart)
    → Has before b d → Belongs d q → n < before.settings.schedulers → (world_sched before n).hand ≡ Some request
    → old ≡ slice_index_or b.mails.items request.reply_to old → new.process ≡ old.process → MailStands (settings_of d) (front_of q) new
    → IsMade (settings_of d) (view_of b.pass) (Answers (settings_of d) n request (Ok left)) (view_of q)
    → (state (settings_of d) (front_of q)).scheds n ≡ sched_after_answer (Ok left) ((state (settings_of d) (front_of b.pass)).scheds n)
    → part ≡ slice_index_or b.scheds.items n part → x.wheel ≡ part.wheel → x.hand ≡ None → x.expired ≡ part.expired
    → DoesBut request.timer (cancelled_by request (Ok left)) before d q b.next
    (record (parts_in b) { mails = slice_set b.mails.items request.reply_to new; scheds = slice_set b.scheds.items n x })
    (λ w. By w (λ g. Answers g n request (Ok left)))
answered_now before b d q n old new request left part x has belongs low hand lent named stands made sched lent_part wheel empty expired =
    let g : Settings = settings_of d in
    let s : State = state g (front_of b.pass) in
    let i : ℕ = request.reply_to in
    let was : Had b d n part = had before b d n part has low lent_part in
    let at : x.wheel ≡ n = wheel ∙ was.wheel in
    let now = now_stands before b d q n x (sched_after_answer (Ok left) (s.scheds n)) has low at sched empty (ap (λ (f : Queue). f.rows) expired ∙ was.expired) in
    finish_but before b d q (record (parts_in b) { mails = slice_set b.mails.items i new; scheds = slice_set b.scheds.items n x }) made.entries (Sched n ∷ (MailOf i ∷ []))
    request.timer (cancelled_by request (Ok left)) (λ w. By w (λ g. Answers g n request (Ok left))) has refl belongs made.call
    (answers_only g n request (Ok left) s made.entries made.allowed) (refl, (refl, tt)) (λ j. refl)
    (mail_and_sched before b d q i n old new x has low (asker_low before b d n request has hand) lent named stands at now) refl
    (λ m grown own. subst (Answers g n request (Ok left) s) (sym own) made.allowed)
    (λ alone. answer_settles g n request (Ok left) s made.entries made.allowed (added d b.pass q made.entries (exact b d q made.entries has made.call alone) made.call.legal))
    (λ k is. answers_hit g n request left k s made.entries made.allowed is) refl (answer_cancels g n request left s made.entries made.allowed)

-- the first expired timer was handed over, and is out of the list
pub handed_now : (before : Seen) (b : Inside) (d : Desk) (q : Pass) (n : ℕ) (old new : Mailbox) (expired : Row) (how : Handed) (part x : SchedPart)
    → Has before b d → Belongs d q → n < before.settings.schedulers → first_of (world_sched before n).expired ≡ Some expired
    → old ≡ slice_index_or b.mails.items expired.dest old → new.process ≡ old.process → MailStands (settings_of d) (front_of q) new
    → IsMade (settings_of d) (view_of b.pass) (HandsOver (settings_of d) expired.timer.wheel expired (Ok how)) (view_of q)
    → (state (settings_of d) (front_of q)).scheds expired.timer.wheel ≡ handed (Ok how) ((state (settings_of d) (front_of b.pass)).scheds expired.timer.wheel)
    → part ≡ slice_index_or b.scheds.items n part → x.wheel ≡ part.wheel → x.hand ≡ part.hand → x.expired.rows ≡ others_of part.expired.rows
    → Does before d q b.next (record (parts_in b) { mails = slice_set b.mails.items expired.dest new; scheds = slice_set b.scheds.items n x })
    (λ w way. Hands w.settings way n (Ok how))
handed_now before b d q n old new expired how part x has belongs low first lent named stands made_w sched lent_part wheel hand rows =
    let g : Settings = settings_of d in
    let s : State = state g (front_of b.pass) in
    let placed : IsPlaced g n expired = expired_placed before b d n expired has first in
    let was : Had b d n part = had before b d n part has low lent_part in
    let at : x.wheel ≡ n = wheel ∙ was.wheel in
    let made : IsMade g (view_of b.pass) (HandsOver g n expired (Ok how)) (view_of q) =
    subst (λ m. IsMade g (view_of b.pass) (HandsOver g m expired (Ok how)) (view_of q)) placed.wheel made_w in
    let sched_n : (state g (front_of q)).scheds n ≡ handed (Ok how) (s.scheds n) =
    subst (λ m. (state g (front_of q)).scheds m ≡ handed (Ok how) (s.scheds m)) placed.wheel sched in
    let now = now_stands before b d q n x (handed (Ok how) (s.scheds n)) has low at sched_n (hand ∙ was.hand) (rows ∙ ap (λ (l : List Row). others_of l) was.expired) in
    calm_called before b d q (record (parts_in b) { mails = slice_set b.mails.items expired.dest new; scheds = slice_set b.scheds.items n x }) made.entries
    (Sched n ∷ (MailOf expired.dest ∷ [])) (λ w way. Hands w.settings way n (Ok how)) has refl belongs made.call
    (handing_only g n expired (Ok how) s made.entries made.allowed) (hands_calm g n expired (Ok how) s made.entries made.allowed) (refl, (refl, tt)) refl refl
    (mail_and_sched before b d q expired.dest n old new x has low placed.dest lent named stands at now)
    (λ m grown own. record {
      expired = expired;
      first = subst (λ (w : Seen). first_of (world_sched w n).expired ≡ Some expired) (sym has.is) first;
      step = subst (HandsOver g n expired (Ok how) s) (sym own) made.allowed;
    })

-- what a scheduler has after its first expired timer was handed over
pub hands_on : (before : Seen) (b : Inside) (d : Desk) (q : Pass) (n : ℕ) (expired : Row) (how : Handed) → Has before b d
    → first_of (world_sched before n).expired ≡ Some expired
    → (state (settings_of d) (front_of q)).scheds expired.timer.wheel ≡ handed (Ok how) ((state (settings_of d) (front_of b.pass)).scheds expired.timer.wheel)
    → ((state (settings_of d) (front_of q)).scheds n).expired ≡ others_of (world_sched before n).expired
hands_on before b d q n expired how has first sched =
    let g : Settings = settings_of d in
    let placed : IsPlaced g n expired = expired_placed before b d n expired has first in
    let mine = subst (λ m. (state g (front_of q)).scheds m ≡ handed (Ok how) ((state g (front_of b.pass)).scheds m)) placed.wheel sched in
    ap (λ (s : SchedState). s.expired) mine ∙ ap (λ (w : Seen). others_of (world_sched w n).expired) has.is

-- its slot can be used again
pub handed_in : (before : Seen) (b : Inside) (d : Desk) (q : Pass) (n : ℕ) (expired : Row) (how : Handed) (list : Option TurnRow) → Has before b d → n < before.settings.schedulers
    → first_of (world_sched before n).expired ≡ Some expired
    → IsMade (settings_of d) (view_of b.pass) (HandsOver (settings_of d) expired.timer.wheel expired (Ok how)) (view_of q)
    → IsHandedIn (seen d q b.next b.keeper b.wheels.items list) expired.timer
handed_in before b d q n expired how list has low first made =
    let g : Settings = settings_of d in
    let h : List Entry = front_of b.pass in
    let w : ℕ = expired.timer.wheel in
    let placed : IsPlaced g n expired = expired_placed before b d n expired has first in
    let below : w < g.schedulers = subst (λ m. m < g.schedulers) (sym placed.wheel) (schedulers_at has n low) in
    let first_w : first_of ((state g h).scheds w).expired ≡ Some expired =
    subst (λ m. first_of ((state g h).scheds m).expired ≡ Some expired) (sym placed.wheel)
    (subst (λ (w : Seen). first_of (world_sched w n).expired ≡ Some expired) (sym has.is) first) in
    let free = free_kept g (view_of b.pass) made.entries (view_of q) (Sched w ∷ (MailOf expired.dest ∷ [])) (Wheel w) made.call
    (handing_only g w expired (Ok how) (state g h) made.entries made.allowed) (has.fit.holds.rest (Wheel w) below tt) refl in (
      below,
      (λ x. expired_let_go g h (slice_index_or b.wheels.items w x) expired (has.fit.stand.wheels.stand w x below refl)
          (subst (λ m. first_of ((state g h).scheds m).expired ≡ Some expired) (sym (has.fit.stand.wheels.named w x below)) first_w)),
      handed_free g (view_of b.pass) (view_of q) w expired how has.fit.stand.legal first_w made free,
    )

-- a scheduler's step that found no memory changed nothing but the room of a mailbox
none_taken : (b : Inside) (d : Desk) (q : Pass) → Stand (settings_of d) (front_of b.pass) [] (parts_in b) → view_of q ≡ view_of b.pass
    → TakesPlace (settings_of d) (view_of b.pass) [] (view_of q)
none_taken b d q stand same =
    subst (λ w. TakesPlace (settings_of d) (view_of b.pass) [] w) (sym same)
    (record { actors = refl; legal = stand.legal; later = []; grown = sym (append-nil (front_of b.pass)); ours = refl })

pub step_refused : (before : Seen) (b : Inside) (d : Desk) (q : Pass) (i : ℕ) (old new : Mailbox) (call : Seen → Way → Growth) → Has before b d → Belongs d q
    → i < (settings_of d).processes → old ≡ slice_index_or b.mails.items i old → new.process ≡ old.process → MailStands (settings_of d) (front_of q) new
    → view_of q ≡ view_of b.pass → Makes b d q [] call
    → Does before d q b.next (record (parts_in b) { mails = slice_set b.mails.items i new }) call
step_refused before b d q i old new call has belongs ranged lent named stands same allowed =
    let g : Settings = settings_of d in
    let mine : new.process ≡ i = named ∙ mail_named g (front_of b.pass) [] (parts_in b) i old has.fit.stand ranged lent in
    calm_called before b d q (record (parts_in b) { mails = slice_set b.mails.items i new }) [] (MailOf i ∷ []) call has refl belongs
    (none_taken b d q has.fit.stand same) tt tt (refl, tt) refl refl
    (λ stand. mail_back g (front_of q) [] (parts_in b) i new ranged mine stands stand) allowed
