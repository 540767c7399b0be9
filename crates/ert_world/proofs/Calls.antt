-- A call of a part is a call of the world that has it, beside those of seats.

use Rattle.std.proofs.Common.{◌≡◌, ℕ, zero, suc, ◌<◌, arith, true, false, List, [], ◌∷◌, ◌++◌, filter, slice_index_or, Some, Result, Ok, Err, inl, refl, sym, ap, subst, ◌∙◌, append-nil}
use Rattle.std.specs.Prelude.{slice_set}
use Rattle.ert_effects.specs.{RequestCalls.Asks, Ways.{Growth, Way}}
use Rattle.ert_clock.specs.Shown.{ClockStands}
use Rattle.ert_defs.proofs.Runs.{state-append, legal_then}
use Rattle.ert_defs.specs.{Legal.{Legal, LegalFrom}, States.{State, opening, run, state}, declared.entry.Actor.Actor, declared.entry.Actor.TheVariants.{Keeper, Inbox, MailOf, Caller}, declared.entry.Entry.Entry}
use Rattle.ert_defs.specs.{declared.mail.Request.Request, declared.memory.NoMemory.NoMemory, declared.settings.OffsetState.OffsetState, declared.settings.OffsetState.TheVariants.{Preliminary, Final, Volatile}}
use Rattle.ert_defs.specs.{declared.settings.Settings.Settings}
use Rattle.ert_mail.specs.{Inboxes.{Waiting, InboxStands}, Mailboxes.{Mailbox, MailboxStands as MailStands}}
use Rattle.ert_table.specs.{Published.ReadsByLeastCaller, declared.keeper.KeeperPart.KeeperPart, Calls.{AreOnlyOf, IsMade}, Desks.{settings_of, view_of, front_of, actors_of, Belongs}, Held.{is_held, least_caller}, Takes.TakesPlace}
use Rattle.ert_table.specs.{declared.desk.Desk.Desk, declared.desk.Pass.Pass}
use Rattle.ert_table.proofs.Calls.{whole_exact}
use Rattle.ert_world.proofs.{Alone.{whole_of, went}, Armed.{AreCalm, is_cancel}, Calm.IsQuiet, Returned.{mail_back, inbox_back, keeper_back, caller_back}, Standing.others_stand, Tidying.{AllHoldOn, same_hold, tidy_on}, Unseated.AreUnseated}
use Rattle.ert_world.proofs.{Unseated.own_unseated}
use Rattle.ert_world.specs.{Parts.{AllParts, parts_of, Stand}, Stepping.turns_same, Ways.is_unseated, Worlds.{Seen, seen, HoldsRest, AreFit, AreTidy, AreSound, ForgetsCancelled, HasForgottenAll, Goes, GoesOnClock, TurnsGrow, By, way_of}}
use Rattle.ert_world.specs.{declared.world.World.TheInside.Inside}

-- all parts that a world has
abbrev pub parts_in : Inside → AllParts
parts_in b = record (parts_of b.keeper b.wheels.items b.inboxes.items b.mails.items b.scheds.items) { turns = b.list }

-- what callers see of a world at a desk
abbrev pub seen_at : Desk → Inside → Seen
seen_at d b = seen d b.pass b.next b.keeper b.wheels.items b.list

-- a world has these at a desk before a call
pub record Has (before : Seen) (b : Inside) (d : Desk) : Type 0 where
  pub is : seen_at d b ≡ before
  pub fit : AreFit d b.pass b.next (parts_in b)
  pub tidy : b.next ≡ 1 → AreTidy (settings_of d) (front_of b.pass) b.wheels.items

-- the desk that a world shares
pub has_at : {before : Seen} {b : Inside} {d e : Desk} → d ≡ e → seen_at e b ≡ before → AreSound e b.pass b.next (parts_in b) → Has before b d
has_at {before} {b} {d} {e} same is kept = subst (λ x. Has before b x) (sym same) (record { is = is; fit = kept.fit; tidy = kept.tidy })

-- the parts of a world after a call: they fit, and what callers see of them goes on by it
pub record Does (before : Seen) (d : Desk) (q : Pass) (next : ℕ) (parts : AllParts) (call : Seen → Way → Growth) : Type 0 where
  pub fit : AreSound d q next parts
  pub goes : Goes before (call before) (seen d q next parts.keeper parts.wheels parts.turns)
  pub forgets : ForgetsCancelled before (seen d q next parts.keeper parts.wheels parts.turns)

-- the same of a call that may move the clock
pub record DoesOnClock (before : Seen) (d : Desk) (q : Pass) (next : ℕ) (parts : AllParts) (call : Seen → Way → Growth) : Type 0 where
  pub fit : AreSound d q next parts
  pub goes : GoesOnClock before (call before) (seen d q next parts.keeper parts.wheels parts.turns)
  pub forgets : ForgetsCancelled before (seen d q next parts.keeper parts.wheels parts.turns)

does_on_clock_at : {before : Seen} {d e : Desk} {q : Pass} {next : ℕ} {parts : AllParts} {call : Seen → Way → Growth} → d ≡ e
    → DoesOnClock before d q next parts call → DoesOnClock before e q next parts call
does_on_clock_at {before} {d} {e} {q} {next} {parts} {call} same done = subst (λ x. DoesOnClock before x q next parts call) same done

pub does_at : {before : Seen} {d e : Desk} {q : Pass} {next : ℕ} {parts : AllParts} {call : Seen → Way → Growth} → d ≡ e
    → Does before d q next parts call → Does before e q next parts call
does_at {before} {d} {e} {q} {next} {parts} {call} same done = subst (λ x. Does before x q next parts call) same done

-- what a call may record, of a piece of the history in which these entries are the world's
abbrev pub Makes : Inside → Desk → Pass → List Entry → (Seen → Way → Growth) → Type 0
Makes b d q es call =
    (m : List Entry) → front_of q ≡ front_of b.pass ++ m → filter (is_unseated b.next) m ≡ es → call (seen_at d b) (way_of (seen_at d b)) (front_of b.pass) m

-- where no seat was given out the history gains the call's entries alone
pub exact : {before : Seen} (b : Inside) (d : Desk) (q : Pass) (es : List Entry) → Has before b d
    → TakesPlace (settings_of d) (view_of b.pass) es (view_of q) → b.next ≡ 1 → front_of q ≡ front_of b.pass ++ es
exact b d q es has takes one =
    whole_exact (settings_of d) (view_of b.pass) (view_of q) es (whole_of (settings_of d) (actors_of b.pass) b.next one has.fit.holds) takes

-- and the state after it is that before it and those
pub after : (d : Desk) (p q : Pass) (es : List Entry) → front_of q ≡ front_of p ++ es → state (settings_of d) (front_of q) ≡ run (settings_of d) (state (settings_of d) (front_of p)) es
after d p q es front = ap (state (settings_of d)) front ∙ state-append (settings_of d) (front_of p) es

pub added : (d : Desk) (p q : Pass) (es : List Entry) → front_of q ≡ front_of p ++ es → Legal (settings_of d) (front_of q)
    → LegalFrom (settings_of d) (state (settings_of d) (front_of p)) es
added d p q es front legal =
    let g : Settings = settings_of d in
    legal_then g (opening g) (front_of p) es (subst (Legal g) front legal)

-- the parts that these actors have come back as these
abbrev pub ComeBack : Inside → Desk → Pass → List Actor → AllParts → Type 0
ComeBack b d q lent new = Stand (settings_of d) (front_of q) lent (parts_in b) → Stand (settings_of d) (front_of q) [] new

-- so the parts fit
pub fit_on : (d : Desk) (p q : Pass) (next : ℕ) (parts new : AllParts) (es : List Entry) (lent : List Actor) → AreFit d p next parts → Belongs d q
    → TakesPlace (settings_of d) (view_of p) es (view_of q) → AreOnlyOf lent es
    → (Stand (settings_of d) (front_of q) lent parts → Stand (settings_of d) (front_of q) [] new) → AreFit d q next new
fit_on d p q next parts new es lent fit belongs takes only back = record {
  belongs = belongs;
  holds = subst (λ l. HoldsRest (settings_of d) l next) (sym takes.actors) fit.holds;
  stand = back (others_stand (settings_of d) (view_of p) es (view_of q) next lent parts takes only fit.holds fit.stand);
}

-- where nothing was cancelled nothing has to be forgotten
calm_forgets : (w : Seen) (es : List Entry) → AreCalm es → HasForgottenAll w es
calm_forgets w [] calm = tt
calm_forgets w (e ∷ es) calm =
    (λ timer left is. absurd (let clash : true ≡ false = sym (ap is_cancel is) ∙ calm.0 in cc), calm_forgets w es calm.1)

-- a call of a world that cancels nothing, on the parts that these actors have
finish_on_clock : (before : Seen) (b : Inside) (d : Desk) (q : Pass) (new : AllParts) (es : List Entry) (lent : List Actor) (call : Seen → Way → Growth)
    → Has before b d → new.turns ≡ b.list → Belongs d q → TakesPlace (settings_of d) (view_of b.pass) es (view_of q) → AreOnlyOf lent es → AreCalm es → AreUnseated b.next lent
    → ComeBack b d q lent new → Makes b d q es call → (b.next ≡ 1 → AllHoldOn (state (settings_of d) (front_of q)) b.wheels.items new.wheels) → DoesOnClock before d q b.next new call
finish_on_clock before b d q new es lent call has turns belongs takes only calm unseated back allowed hold =
    let g : Settings = settings_of d in
    let fit : AreFit d q b.next new = fit_on d b.pass q b.next (parts_in b) new es lent has.fit belongs takes only back in
    let end : Seen = seen d q b.next new.keeper new.wheels new.turns in
    let own = own_unseated g (view_of b.pass) es (view_of q) b.next lent has.fit.holds takes only unseated in
    record {
      fit = record {
        fit = fit;
        tidy = λ alone i x low.
            tidy_on g (state g (front_of b.pass)) (state g (front_of q)) es (slice_index_or b.wheels.items i x) (slice_index_or new.wheels i x)
            (after d b.pass q es (exact b d q es has takes alone)) calm (fit.stand.wheels.stand i x low refl).holds.rows.live (hold alone i x) (has.tidy alone i x low);
      };
      goes = subst (λ w. GoesOnClock w (call w) end) has.is
          (went (record (seen_at d b) { clock = new.keeper }) end (call (seen_at d b)) (record {
            piece = takes.later;
            grown = takes.grown;
            made = allowed takes.later takes.grown own;
          }) takes.legal refl refl refl refl (subst (TurnsGrow b.list) (sym turns) (turns_same b.list)));
      forgets = subst (λ w. ForgetsCancelled w end) has.is (record {
        piece = takes.later;
        grown = takes.grown;
        forgotten = subst (HasForgottenAll end) (sym own) (calm_forgets end es calm);
      });
    }

-- one that leaves the clock
pub finish : (before : Seen) (b : Inside) (d : Desk) (q : Pass) (new : AllParts) (es : List Entry) (lent : List Actor) (call : Seen → Way → Growth)
    → Has before b d → new.turns ≡ b.list → Belongs d q → TakesPlace (settings_of d) (view_of b.pass) es (view_of q) → AreOnlyOf lent es → AreCalm es → AreUnseated b.next lent
    → ComeBack b d q lent new → Makes b d q es call → (b.next ≡ 1 → AllHoldOn (state (settings_of d) (front_of q)) b.wheels.items new.wheels) → new.keeper ≡ b.keeper
    → Does before d q b.next new call
finish before b d q new es lent call has turns belongs takes only calm unseated back allowed hold same =
    let done = finish_on_clock before b d q new es lent call has turns belongs takes only calm unseated back allowed hold in
    record {
      fit = done.fit;
      goes = subst (λ k. Goes (record before { clock = k }) (call before) (seen d q b.next new.keeper new.wheels new.turns))
          (same ∙ ap (λ (w : Seen). w.clock) has.is) done.goes;
      forgets = done.forgets;
    }

-- one that cancels nothing and leaves the wheels
pub calm_called : (before : Seen) (b : Inside) (d : Desk) (q : Pass) (new : AllParts) (es : List Entry) (lent : List Actor) (call : Seen → Way → Growth)
    → Has before b d → new.turns ≡ b.list → Belongs d q → TakesPlace (settings_of d) (view_of b.pass) es (view_of q) → AreOnlyOf lent es → AreCalm es
    → AreUnseated b.next lent → new.wheels ≡ b.wheels.items → new.keeper ≡ b.keeper
    → ComeBack b d q lent new → Makes b d q es call → Does before d q b.next new call
calm_called before b d q new es lent call has turns belongs takes only calm unseated wheels same back allowed =
    finish before b d q new es lent call has turns belongs takes only calm unseated back allowed
    (λ alone. same_hold (state (settings_of d) (front_of q)) b.wheels.items new.wheels wheels) same

-- what one step may record
pub makes : (b : Inside) (d : Desk) (q : Pass) (es : List Entry) (allows : Settings → State → List Entry → Type 0)
    → allows (settings_of d) (state (settings_of d) (front_of b.pass)) es → Makes b d q es (λ w. By w allows)
makes b d q es allows allowed = λ m grown own. subst (allows (settings_of d) (state (settings_of d) (front_of b.pass))) (sym own) allowed

pub called_with : (before : Seen) (b : Inside) (d : Desk) (q : Pass) (new : AllParts) (lent : List Actor) (allows : Settings → State → List Entry → Type 0)
    → Has before b d → new.turns ≡ b.list → Belongs d q → (made : IsMade (settings_of d) (view_of b.pass) (allows (settings_of d)) (view_of q)) → AreOnlyOf lent made.entries
    → AreCalm made.entries → AreUnseated b.next lent → new.wheels ≡ b.wheels.items → new.keeper ≡ b.keeper
    → ComeBack b d q lent new → Does before d q b.next new (λ w. By w allows)
called_with before b d q new lent allows has turns belongs made only calm unseated wheels same back =
    calm_called before b d q new made.entries lent (λ w. By w allows) has turns belongs made.call only calm unseated wheels same back
    (makes b d q made.entries allows made.allowed)

-- a call by caller 0 alone, that has no part of its own
pub alone_called : (before : Seen) (b : Inside) (d e : Desk) (q : Pass) (allows : Settings → State → List Entry → Type 0) → d ≡ e → seen_at e b ≡ before
    → AreSound e b.pass b.next (parts_in b) → Belongs d q → IsMade (settings_of d) (view_of b.pass) (allows (settings_of d)) (view_of q)
    → ((s : State) (es : List Entry) → allows (settings_of d) s es → IsQuiet (Caller 0 ∷ []) es) → Does before e q b.next (parts_in b) (λ w. By w allows)
alone_called before b d e q allows same is fit belongs made quiet =
    let it = quiet (state (settings_of d) (front_of b.pass)) made.entries made.allowed in
    does_at same (called_with before b d q (parts_in b) (Caller 0 ∷ []) allows (has_at same is fit) refl belongs made it.only it.calm (refl, tt) refl refl
    (caller_back (settings_of d) (front_of q) [] (parts_in b) 0))

-- a call on the clock, by caller 0
pub keeper_called : (before : Seen) (b : Inside) (d e : Desk) (q : Pass) (x : KeeperPart) (allows : Settings → State → List Entry → Type 0) → d ≡ e
    → seen_at e b ≡ before → AreSound e b.pass b.next (parts_in b) → Belongs d q → ClockStands (settings_of d) (front_of q) x
    → IsMade (settings_of d) (view_of b.pass) (allows (settings_of d)) (view_of q)
    → ((s : State) (es : List Entry) → allows (settings_of d) s es → IsQuiet (Keeper ∷ (Caller 0 ∷ [])) es)
    → DoesOnClock before e q b.next (record (parts_in b) { keeper = x }) (λ w. By w allows)
keeper_called before b d e q x allows same is fit belongs stands made quiet =
    let g : Settings = settings_of d in
    let it = quiet (state g (front_of b.pass)) made.entries made.allowed in
    let new : AllParts = record (parts_in b) { keeper = x } in
    let has : Has before b d = has_at same is fit in
    does_on_clock_at same (finish_on_clock before b d q new made.entries (Keeper ∷ (Caller 0 ∷ [])) (λ w. By w allows) has refl belongs made.call it.only it.calm
    (refl, (refl, tt))
    (λ stand. caller_back g (front_of q) [] new 0 (keeper_back g (front_of q) (Caller 0 ∷ []) (parts_in b) x stands stand))
    (makes b d q made.entries allows made.allowed) (λ alone. same_hold (state g (front_of q)) b.wheels.items b.wheels.items refl))

-- a number in range of what callers see is in range of the desk
pub processes_at : {before : Seen} {b : Inside} {d : Desk} → Has before b d → (i : ℕ) → i < before.settings.processes → i < (settings_of d).processes
processes_at has i low = subst (λ (w : Seen). i < w.settings.processes) (sym has.is) low

pub schedulers_at : {before : Seen} {b : Inside} {d : Desk} → Has before b d → (i : ℕ) → i < before.settings.schedulers → i < (settings_of d).schedulers
schedulers_at has i low = subst (λ (w : Seen). i < w.settings.schedulers) (sym has.is) low

-- the number of the mailbox at a place
pub mail_named : (g : Settings) (h : List Entry) (lent : List Actor) (parts : AllParts) (i : ℕ) (x : Mailbox) → Stand g h lent parts → i < g.processes
    → x ≡ slice_index_or parts.mails i x → x.process ≡ i
mail_named g h lent parts i x stand low is = ap (λ (m : Mailbox). m.process) is ∙ stand.mails.named i x low

pub inbox_named : (g : Settings) (h : List Entry) (lent : List Actor) (parts : AllParts) (i : ℕ) (x : Waiting) → Stand g h lent parts → i < g.schedulers
    → x ≡ slice_index_or parts.inboxes i x → x.wheel ≡ i
inbox_named g h lent parts i x stand low is = ap (λ (q : Waiting). q.wheel) is ∙ stand.inboxes.named i x low

-- a call on a mailbox, by caller 0
pub mail_called : (before : Seen) (b : Inside) (d e : Desk) (q : Pass) (i : ℕ) (old new : Mailbox) (allows : ℕ → Settings → State → List Entry → Type 0)
    → d ≡ e → seen_at e b ≡ before → AreSound e b.pass b.next (parts_in b) → Belongs d q → i < before.settings.processes
    → old ≡ slice_index_or b.mails.items i old → new.process ≡ old.process → MailStands (settings_of d) (front_of q) new
    → (Legal (settings_of d) (front_of b.pass) → IsMade (settings_of d) (view_of b.pass) (allows old.process (settings_of d)) (view_of q))
    → ((s : State) (es : List Entry) → allows old.process (settings_of d) s es → AreOnlyOf (Caller 0 ∷ (MailOf old.process ∷ [])) es)
    → ((s : State) (es : List Entry) → allows old.process (settings_of d) s es → AreCalm es)
    → Does before e q b.next (record (parts_in b) { mails = slice_set b.mails.items i new }) (λ w. By w (allows i))
mail_called before b d e q i old new allows same is fit belongs low lent named stands making only calm =
    let has : Has before b d = has_at same is fit in
    let g : Settings = settings_of d in
    let p : ℕ = old.process in
    let below : i < g.processes = processes_at has i low in
    let one : p ≡ i = mail_named g (front_of b.pass) [] (parts_in b) i old has.fit.stand below lent in
    let made = making has.fit.stand.legal in
    let s : State = state g (front_of b.pass) in
    does_at same (subst (λ n. Does before d q b.next (record (parts_in b) { mails = slice_set b.mails.items n new }) (λ w. By w (allows n))) one
    (called_with before b d q (record (parts_in b) { mails = slice_set b.mails.items p new }) (Caller 0 ∷ (MailOf p ∷ [])) (allows p) has refl belongs made
    (only s made.entries made.allowed) (calm s made.entries made.allowed) (refl, (refl, tt)) refl refl
    (λ stand. mail_back g (front_of q) [] (parts_in b) p new (rw one below) named stands (caller_back g (front_of q) (MailOf p ∷ []) (parts_in b) 0 stand))))

-- a request was put into an inbox, by caller 0
pub inbox_called : (before : Seen) (b : Inside) (d e : Desk) (q : Pass) (i : ℕ) (old new : Waiting) (allows : ℕ → Settings → State → List Entry → Type 0)
    → d ≡ e → seen_at e b ≡ before → AreSound e b.pass b.next (parts_in b) → Belongs d q → i < before.settings.schedulers
    → old ≡ slice_index_or b.inboxes.items i old → new.wheel ≡ old.wheel → InboxStands (settings_of d) (front_of q) new
    → (Legal (settings_of d) (front_of b.pass) → IsMade (settings_of d) (view_of b.pass) (allows old.wheel (settings_of d)) (view_of q))
    → ((s : State) (es : List Entry) → allows old.wheel (settings_of d) s es → AreOnlyOf (Caller 0 ∷ (Inbox old.wheel ∷ [])) es)
    → ((s : State) (es : List Entry) → allows old.wheel (settings_of d) s es → AreCalm es)
    → Does before e q b.next (record (parts_in b) { inboxes = slice_set b.inboxes.items i new }) (λ w. By w (allows i))
inbox_called before b d e q i old new allows same is fit belongs low lent named stands making only calm =
    let has : Has before b d = has_at same is fit in
    let g : Settings = settings_of d in
    let n : ℕ = old.wheel in
    let below : i < g.schedulers = schedulers_at has i low in
    let one : n ≡ i = inbox_named g (front_of b.pass) [] (parts_in b) i old has.fit.stand below lent in
    let made = making has.fit.stand.legal in
    let s : State = state g (front_of b.pass) in
    does_at same (subst (λ n. Does before d q b.next (record (parts_in b) { inboxes = slice_set b.inboxes.items n new }) (λ w. By w (allows n))) one
    (called_with before b d q (record (parts_in b) { inboxes = slice_set b.inboxes.items n new }) (Caller 0 ∷ (Inbox n ∷ [])) (allows n) has refl belongs made
    (only s made.entries made.allowed) (calm s made.entries made.allowed) (refl, (refl, tt)) refl refl
    (λ stand. inbox_back g (front_of q) [] (parts_in b) n new (rw one below) named stands (caller_back g (front_of q) (Inbox n ∷ []) (parts_in b) 0 stand))))

-- caller 0 is the least that a world holds
least_from : (actors : List Actor) (n : ℕ) → is_held actors (Caller 0) ≡ true → least_caller actors (suc n) ≡ Some 0
least_from actors zero held = rw held refl
least_from actors (suc n) held = rw (least_from actors n held) refl

least_held : (actors : List Actor) (n : ℕ) → 0 < n → is_held actors (Caller 0) ≡ true → least_caller actors n ≡ Some 0
least_held actors zero some held = absurd (omega (arith, some))
least_held actors (suc n) some held = least_from actors n held

pub reads_by : (s : OffsetState) (g : Settings) (p : Pass) (next : ℕ) → 0 < g.callers → HoldsRest g (actors_of p) next → ReadsByLeastCaller s g (view_of p) 0
reads_by Preliminary g p next some holds = tt
reads_by Final g p next some holds = least_held (actors_of p) g.callers some (holds.rest (Caller 0) some (inl refl))
reads_by Volatile g p next some holds = least_held (actors_of p) g.callers some (holds.rest (Caller 0) some (inl refl))

-- a request stands in the inbox that it should
pub asked_in : (before after : Seen) (q : Request) (answer : Result (Unit {0}) NoMemory) (n m : ℕ) → n ≡ m
    → Goes before (By before (λ g. Asks g 0 n q answer)) after → Goes before (By before (λ g. Asks g 0 m q answer)) after
asked_in before after q answer n m same goes = subst (λ n. Goes before (By before (λ g. Asks g 0 n q answer)) after) same goes
