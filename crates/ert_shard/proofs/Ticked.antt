-- A call by what is left of a world.

use Rattle.std.proofs.Common.{◌≡◌, ℕ, zero, suc, ◌<◌, Bool, true, false, ◌||◌, List, [], ◌∷◌, filter, ℤ, ◌+ℤ◌, Option, Some, None, refl, sym, ap, subst, ◌∙◌, arith}
use Rattle.std.proofs.lemmas.Bool.{lt-ltb, le-leb}
use Rattle.ert_clock.specs.Shown.{Shown, ClockStands}
use Rattle.ert_defs.proofs.Runs.{legal_then}
use Rattle.ert_defs.specs.{Actors.{same_actor, of, IsFree}, Clocks.face, Entries.is_ours, Legal.{Legal, LegalFrom}, States.{State, opening, next, state}, declared.entry.Actor.Actor, declared.entry.Actor.TheVariants.{Keeper, Wheel, Inbox}}
use Rattle.ert_defs.specs.{declared.entry.Actor.TheVariants.{Sched, MailOf, Caller}, declared.entry.Entry.Entry, declared.settings.OffsetState.OffsetState, declared.settings.OffsetState.TheVariants.{Preliminary, Final, Volatile}}
use Rattle.ert_defs.specs.{declared.settings.Settings.Settings}
use Rattle.ert_effects.specs.ClockCalls.{TellsTime, TellsOffset, TellsSystemTime}
use Rattle.ert_world.proofs.{Calm.{time_quiet, offset_quiet, system_quiet}, Standing.{own_kept, free_kept, grown_by}, Values.{time_seen, offset_seen, system_seen}}
use Rattle.ert_table.specs.{Published.ReadsByLeastCaller, Calls.{AreOnlyOf, IsMade}, Desks.{settings_of, view_of, front_of, actors_of, Belongs}, Held.{is_held, IsActor, IsOurs, least_caller}, declared.desk.Desk.Desk}
use Rattle.ert_table.specs.{declared.desk.Pass.Pass}
use Rattle.ert_mail.proofs.LawsHold.{inbox_on, mail_on}
use Rattle.ert_mail.specs.{Inboxes.{Waiting, InboxStands}, Mailboxes.{Mailbox, MailboxStands as MailStands}}
use Rattle.ert_shard.proofs.{Partners.none_any, Cut.homes_on, Rejoined.ordered_kept}
use Rattle.ert_shard.specs.{Shards.{has_any, is_with_any}, Hubs.{Rest, rest, is_kept, HubHoldsRest, IsRest, HubGoes, HubSteps, HubBy}, declared.hub.Home.Home}
use Rattle.ert_table.proofs.{Holders.{held_maker, same_actor-true}, StandOn.keeper_on}
use Rattle.ert_timers.proofs.{LawsHold.stand_on as wheel_on, SchedParts.sched_on}
use Rattle.ert_timers.specs.{Parts.{Part, PartStands as WheelStands}, SchedParts.SchedStands, declared.sched_part.SchedPart.SchedPart}
use Rattle.ert_world.specs.Parts.{AllParts}

-- the entries of those whose test a pass's actors pass, of what its front gains
module _ (g : Settings) (actors : List Actor) (own : Actor → Bool) (holds : (a : Actor) → IsActor g a → is_held actors a ≡ own a) where
  abbrev AllOwn : List Actor → Type 0
  AllOwn [] = Unit {0}
  AllOwn (a ∷ l) = (own a ≡ true) × AllOwn l

  held_own : (l : List Actor) (a : Actor) → AllOwn l → is_held l a ≡ true → own a ≡ true
  held_own [] a all held = absurd cc
  held_own (b ∷ l) a all held = at (same_actor b a) refl (held_own l a all.1)
    where
      at : (t : Bool) → same_actor b a ≡ t → (is_held l a ≡ true → own a ≡ true) → own a ≡ true
      at true is more = subst (λ c. own c ≡ true) (same_actor-true b a is) all.0
      at false is more = more (rw is at held)

  same_own : (lent : List Actor) (st : State) (m : List Entry) → AllOwn lent → LegalFrom g st m → AreOnlyOf lent (filter (is_ours actors) m)
      → filter (has_any own) m ≡ filter (is_ours actors) m
  same_own lent st [] all legal only = refl
  same_own lent st (e ∷ m) all legal only = at (is_ours actors e) refl (same_own lent (next g st e) m all legal.1)
    where
      at : (b : Bool) → is_ours actors e ≡ b → (AreOnlyOf lent (filter (is_ours actors) m) → filter (has_any own) m ≡ filter (is_ours actors) m)
          → filter (has_any own) (e ∷ m) ≡ filter (is_ours actors) (e ∷ m)
      at true is more =
          let mine : filter (is_ours actors) (e ∷ m) ≡ e ∷ filter (is_ours actors) m = rw is refl in
          let each = subst (AreOnlyOf lent) mine only in
          let one : own e.by ≡ true = held_own lent e.by all (held_maker lent e.by e.with each.0) in
          let some : has_any own e ≡ true = ap (λ b. b || is_with_any own e.with) one in
          rw (is, some) (ap (λ l. e ∷ l) (more each.1))
      at false is more =
          let theirs : filter (is_ours actors) (e ∷ m) ≡ filter (is_ours actors) m = rw is refl in
          let none : has_any own e ≡ false = none_any g actors own holds e legal.0.keeps is in
          rw (is, none) (more (subst (AreOnlyOf lent) theirs only))

zero_kept : (left first seat : ℕ) → is_kept left first seat (Caller 0) ≡ true
zero_kept left first seat = rw (le-leb 0 left (omega arith)) refl

pub record Does (before : Rest) (d : Desk) (q : Pass) (left first seat : ℕ) (homes : List Home) (new : AllParts) (allows : Settings → State → List Entry → Type 0) : Type 0 where
  pub fit : IsRest d q left first seat homes new
  pub goes : HubGoes before (HubBy before allows) (rest d q new.keeper left first seat homes)

pub ticked : (before : Rest) (d e : Desk) (p q : Pass) (left first seat : ℕ) (homes : List Home) (parts : AllParts) (x : Shown) (allows : Settings → State → List Entry → Type 0) → d ≡ e
    → rest e p parts.keeper left first seat homes ≡ before → IsRest e p left first seat homes parts → Belongs d q → ClockStands (settings_of d) (front_of q) x
    → IsMade (settings_of d) (view_of p) (allows (settings_of d)) (view_of q)
    → ((st : State) (es : List Entry) → allows (settings_of d) st es → AreOnlyOf (Keeper ∷ (Caller 0 ∷ [])) es)
    → Does before e q left first seat homes (record parts { keeper = x }) allows
ticked before d e p q left first seat homes parts x allows same is fit belongs stands made_d only_d =
    let g : Settings = settings_of e in
    let made : IsMade g (view_of p) (allows g) (view_of q) = subst (λ y. IsMade (settings_of y) (view_of p) (allows (settings_of y)) (view_of q)) same made_d in
    let lent : List Actor = Keeper ∷ (Caller 0 ∷ []) in
    let only_e : (st : State) (es : List Entry) → allows g st es → AreOnlyOf lent es =
    subst (λ y. (st : State) (es : List Entry) → allows (settings_of y) st es → AreOnlyOf lent es) same only_d in
    let only : AreOnlyOf lent made.entries = only_e (state g (front_of p)) made.entries made.allowed in
    let takes = made.call in
    let h : List Entry = front_of q in
    let most = fit.holds.most in
    let few = fit.holds.few in
    let more = grown_by g (view_of p) made.entries (view_of q) takes in
    let kept : (k : Actor) → IsActor g k → is_kept left first seat k ≡ true → is_held lent k ≡ false → of h k ≡ of (front_of p) k =
    λ k ranged own apart. own_kept g (view_of p) made.entries (view_of q) lent k takes only (fit.holds.rest k ranged ∙ own) apart in
    let legal = legal_then g (opening g) (front_of p) takes.later (subst (Legal g) takes.grown takes.legal) in
    let own : filter (has_any (is_kept left first seat)) takes.later ≡ made.entries =
    same_own g (actors_of p) (is_kept left first seat) fit.holds.rest lent (state g (front_of p)) takes.later (refl, (zero_kept left first seat, tt)) legal
    (subst (AreOnlyOf lent) (sym takes.ours) only) ∙ takes.ours in
    record {
      fit = record {
        belongs = subst (λ y. Belongs y q) same belongs;
        holds = subst (λ l. HubHoldsRest g l left first seat) (sym takes.actors) fit.holds;
        stand = record {
          legal = takes.legal;
          keeper = subst (λ y. ClockStands (settings_of y) h x) same stands;
          wheels = ordered_kept (λ (y : Part). y.number) (WheelStands g (front_of p)) (WheelStands g h) Wheel left parts.wheels
              (λ y below s. wheel_on g (front_of p) h y more (kept (Wheel y.number) (omega (arith, below, most)) (lt-ltb y.number left below) refl) takes.legal s) fit.stand.wheels;
          inboxes = ordered_kept (λ (y : Waiting). y.wheel) (InboxStands g (front_of p)) (InboxStands g h) Inbox left parts.inboxes
              (λ y below s. inbox_on g (front_of p) h y more (kept (Inbox y.wheel) (omega (arith, below, most)) (lt-ltb y.wheel left below) refl) s) fit.stand.inboxes;
          mails = ordered_kept (λ (y : Mailbox). y.process) (MailStands g (front_of p)) (MailStands g h) MailOf first parts.mails
              (λ y below s. mail_on g (front_of p) h y more (kept (MailOf y.process) (omega (arith, below, few)) (lt-ltb y.process first below) refl) s) fit.stand.mails;
          scheds = ordered_kept (λ (y : SchedPart). y.wheel) (SchedStands g (front_of p)) (SchedStands g h) Sched left parts.scheds
              (λ y below s. sched_on g (front_of p) h y more (kept (Sched y.wheel) (omega (arith, below, most)) (lt-ltb y.wheel left below) refl) s) fit.stand.scheds;
        };
        home = homes_on (front_of p) h left homes (λ w below. kept (Wheel w) (omega (arith, below, most)) (lt-ltb w left below) refl) fit.home;
      };
      goes = subst (λ r. HubGoes r (HubBy r allows) (rest e q x left first seat homes)) is (record {
        grows = record {
          piece = takes.later;
          grown = takes.grown;
          made = subst (allows g (state g (front_of p))) (sym own) made.allowed;
        };
        legal = takes.legal;
        table = refl;
        settings = refl;
        left = refl;
        first = refl;
        next = refl;
        homes = refl;
      });
    }

or_held : (x : Bool) {y : Bool} → y ≡ true → (x || y) ≡ true
or_held true is = refl
or_held false is = is

-- the entries of an actor are those of more
ours_more : (a : Actor) (actors : List Actor) (by : Actor) (with : Option Actor) → IsOurs actors by with → IsOurs (a ∷ actors) by with
ours_more a actors by None held = or_held (same_actor a by) held
ours_more a actors by (Some b) held = (or_held (same_actor a by) held.0, or_held (same_actor a b) held.1)

only_more : (a : Actor) (actors : List Actor) (es : List Entry) → AreOnlyOf actors es → AreOnlyOf (a ∷ actors) es
only_more a actors [] only = tt
only_more a actors (e ∷ es) only = (ours_more a actors e.by e.with only.0, only_more a actors es only.1)

-- a call that leaves the clock's part as it is
pub record Did (before : Rest) (d : Desk) (q : Pass) (left first seat : ℕ) (homes : List Home) (parts : AllParts) (allows : Settings → State → List Entry → Type 0) : Type 0 where
  pub fit : IsRest d q left first seat homes parts
  pub steps : HubSteps before (HubBy before allows) (rest d q parts.keeper left first seat homes)

-- a call of caller 0 alone
pub alone_made : (before : Rest) (d e : Desk) (p q : Pass) (left first seat : ℕ) (homes : List Home) (parts : AllParts) (allows : Settings → State → List Entry → Type 0) → d ≡ e
    → rest e p parts.keeper left first seat homes ≡ before → IsRest e p left first seat homes parts → Belongs d q
    → IsMade (settings_of d) (view_of p) (allows (settings_of d)) (view_of q)
    → ((st : State) (es : List Entry) → allows (settings_of d) st es → AreOnlyOf (Caller 0 ∷ []) es)
    → Did before e q left first seat homes parts allows
alone_made before d e p q left first seat homes parts allows same is fit belongs made only =
    let g : Settings = settings_of d in
    let own : IsRest d p left first seat homes parts = subst (λ y. IsRest y p left first seat homes parts) (sym same) fit in
    let its = only (state g (front_of p)) made.entries made.allowed in
    let takes = made.call in
    let more = grown_by g (view_of p) made.entries (view_of q) takes in
    let kept : of (front_of q) Keeper ≡ of (front_of p) Keeper =
    own_kept g (view_of p) made.entries (view_of q) (Caller 0 ∷ []) Keeper takes its (own.holds.rest Keeper tt) refl in
    let stands : ClockStands g (front_of q) parts.keeper = keeper_on g (front_of p) (front_of q) parts.keeper more kept takes.legal own.stand.keeper in
    let does = ticked before d e p q left first seat homes parts parts.keeper allows same is fit belongs stands made
    (λ st es allowed. only_more Keeper (Caller 0 ∷ []) es (only st es allowed)) in
    record { fit = does.fit; steps = record { goes = does.goes; clock = ap (λ (r : Rest). r.clock) is } }

-- caller 0 is the least that is left
least_from : (actors : List Actor) (n : ℕ) → is_held actors (Caller 0) ≡ true → least_caller actors (suc n) ≡ Some 0
least_from actors zero held = rw held refl
least_from actors (suc n) held = rw (least_from actors n held) refl

least_held : (actors : List Actor) (n : ℕ) → 0 < n → is_held actors (Caller 0) ≡ true → least_caller actors n ≡ Some 0
least_held actors zero some held = absurd (omega (arith, some))
least_held actors (suc n) some held = least_from actors n held

pub reads_by : (s : OffsetState) (d : Desk) (p : Pass) (left first seat : ℕ) (homes : List Home) (parts : AllParts) → IsRest d p left first seat homes parts → ReadsByLeastCaller s (settings_of d) (view_of p) 0
reads_by Preliminary d p left first seat homes parts fit = tt
reads_by Final d p left first seat homes parts fit =
    let some = d.checked.counts.callers_low in
    least_held (actors_of p) (settings_of d).callers some (fit.holds.rest (Caller 0) some ∙ zero_kept left first seat)
reads_by Volatile d p left first seat homes parts fit =
    let some = d.checked.counts.callers_low in
    least_held (actors_of p) (settings_of d).callers some (fit.holds.rest (Caller 0) some ∙ zero_kept left first seat)

-- what caller 0 tells of the time and of the offset is what the clock shows
module _ (before : Rest) (d e : Desk) (p q : Pass) (left first seat : ℕ) (homes : List Home) (parts : AllParts) (same : d ≡ e)
    (is : rest e p parts.keeper left first seat homes ≡ before) (fit : IsRest e p left first seat homes parts) where
  own : IsRest d p left first seat homes parts
  own = subst (λ y. IsRest y p left first seat homes parts) (sym same) fit

  shows : face (settings_of d) (state (settings_of d) (front_of p)).clock ≡ before.clock.face
  shows = sym own.stand.keeper.face ∙ ap (λ (r : Rest). r.clock.face) is

  keeper_free : (allows : State → List Entry → Type 0) → (made : IsMade (settings_of d) (view_of p) allows (view_of q))
      → AreOnlyOf (Caller 0 ∷ []) made.entries → IsFree made.call.later Keeper
  keeper_free allows made only =
      free_kept (settings_of d) (view_of p) made.entries (view_of q) (Caller 0 ∷ []) Keeper made.call only (own.holds.rest Keeper tt) refl

  pub time_told : (now : ℤ) → IsMade (settings_of d) (view_of p) (TellsTime (settings_of d) (Caller 0) now) (view_of q) → now ≡ before.clock.face.time
  time_told now made =
      let g : Settings = settings_of d in
      time_seen g (view_of p) (Caller 0) now (view_of q) before.clock.face shows made
      (keeper_free (TellsTime g (Caller 0) now) made (time_quiet g (Caller 0) now (state g (front_of p)) made.entries made.allowed).only)

  pub offset_told : (answer : ℤ × OffsetState) → IsMade (settings_of d) (view_of p) (TellsOffset (settings_of d) (Caller 0) answer) (view_of q)
      → (answer.0 ≡ before.clock.face.offset) × (answer.1 ≡ before.clock.face.state)
  offset_told answer made =
      let g : Settings = settings_of d in
      offset_seen g (view_of p) (Caller 0) answer (view_of q) before.clock.face shows made
      (keeper_free (TellsOffset g (Caller 0) answer) made (offset_quiet g (Caller 0) answer (state g (front_of p)) made.entries made.allowed).only)

  pub system_told : (answer : ℤ) → IsMade (settings_of d) (view_of p) (TellsSystemTime (settings_of d) (Caller 0) answer) (view_of q)
      → answer ≡ (before.clock.face.time +ℤ before.clock.face.offset)
  system_told answer made =
      let g : Settings = settings_of d in
      system_seen g (view_of p) (Caller 0) answer (view_of q) before.clock.face shows made
      (keeper_free (TellsSystemTime g (Caller 0) answer) made (system_quiet g (Caller 0) answer (state g (front_of p)) made.entries made.allowed).only)
