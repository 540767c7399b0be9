-- The calls that cancel timers, and the rows that they forget.

use Rattle.std.proofs.Common.{◌≡◌, ◌≢◌, ℕ, ◌<◌, true, false, List, [], ◌∷◌, filter, length, slice_index_or, Option, Some, None, refl, sym, ap, subst, ◌∙◌, arith}
use Rattle.std.specs.Option.{is_some}
use Rattle.std.specs.Prelude.{slice_set}
use Rattle.ert_effects.specs.{TimerCalls.Cancels, Ways.{Growth, Way, Grows}}
use Rattle.ert_defs.specs.{Legal.Legal, States.{State, state}, declared.entry.Actor.Actor, declared.entry.Actor.TheVariants.{Wheel, Caller}, declared.entry.Entry.Entry, declared.settings.Settings.Settings}
use Rattle.ert_defs.specs.{declared.timer.Status.TheVariants.Armed, declared.timer.TimerRef.TimerRef}
use Rattle.ert_table.specs.{Calls.{AreOnlyOf, IsMade}, Desks.{settings_of, view_of, front_of, Belongs}, Held.is_held, Takes.TakesPlace, declared.desk.Desk.Desk, declared.desk.Pass.Pass}
use Rattle.ert_timers.specs.{Parts.{Part, last_timer, PartStands as WheelStands}, Freeing.IsHeld, Passed.LosesRows, Tidy.{IsTidy, IsTidyBut}}
use Rattle.ert_timers.proofs.Passing.{same_last}
use Rattle.ert_wheel.specs.Rows.{key_in}
use Rattle.ert_wheel.proofs.Looking.{key_low}
use Rattle.ert_world.proofs.{Alone.{lone, rows_same, stays_by, went}, Calls.{Has, Makes, ComeBack, parts_in, seen_at, exact, after, added, fit_on, makes, schedulers_at}, Cancelled.{Settles, cancel_settles, cancel_only}, Gone.Hits}
use Rattle.ert_world.proofs.{Gone.{gone_in, cancels_hit}, Returned.{wheel_back, caller_back, at_place, lend}, Forgotten.cancel_cancels, Unseated.{AreUnseated, own_unseated}, WheelCalls.{rows_set, wheel_named}, Sparing.IsTidyAt}
use Rattle.ert_world.proofs.{Sparing.{StayTidyBut, GoesBut, CancelOnly, Forgets}}
use Rattle.ert_world.specs.{Ways.is_unseated, Parts.AllParts, Stepping.{Stays, turns_same}, Worlds.{Seen, seen, AreFit, AreSound, Goes, HasForgotten, HasForgottenAll, TurnsGrow, By, way_of}, declared.world.World.TheInside.Inside}

-- the parts of a world after a call that cancelled a timer, if this much was left of it
pub record DoesBut (timer : TimerRef) (left : Option ℕ) (before : Seen) (d : Desk) (q : Pass) (next : ℕ) (parts : AllParts) (call : Seen → Way → Growth) : Type 0 where
  pub fit : AreFit d q next parts
  pub goes : GoesBut timer left before (call before) (seen d q next parts.keeper parts.wheels parts.turns)

-- wheels that a cancel doesn't touch are tidy but for its timer
settled_tidy : {before : Seen} (b : Inside) (d : Desk) (q : Pass) (new : AllParts) (es : List Entry) (timer : TimerRef) (left : Option ℕ) → Has before b d
    → TakesPlace (settings_of d) (view_of b.pass) es (view_of q)
    → (b.next ≡ 1 → Settles (settings_of d) (state (settings_of d) (front_of b.pass)) es timer left)
    → StayTidyBut timer left (seen_at d b) (seen d q b.next new.keeper b.wheels.items new.turns)
settled_tidy b d q new es timer None has takes settles = λ alone i low tidy x k key is.
    let g : Settings = settings_of d in
    let p : Part = slice_index_or b.wheels.items i x in
    let r : TimerRef = last_timer p.number p.slots k in
    subst (λ (s : State). s.status r ≡ Some Armed) (sym (after d b.pass q es (exact b d q es has takes alone))) (settles alone r (tidy x k key is) tt)
settled_tidy b d q new es timer (Some left) has takes settles = λ alone i low tidy x k key is apart.
    let g : Settings = settings_of d in
    let p : Part = slice_index_or b.wheels.items i x in
    let r : TimerRef = last_timer p.number p.slots k in
    subst (λ (s : State). s.status r ≡ Some Armed) (sym (after d b.pass q es (exact b d q es has takes alone))) (settles alone r (tidy x k key is) apart)

-- a call that may have cancelled a timer, on the parts that these actors have
pub finish_but : (before : Seen) (b : Inside) (d : Desk) (q : Pass) (new : AllParts) (es : List Entry) (lent : List Actor) (timer : TimerRef) (left : Option ℕ)
    (call : Seen → Way → Growth)
    → Has before b d → new.turns ≡ b.list → Belongs d q → TakesPlace (settings_of d) (view_of b.pass) es (view_of q) → AreOnlyOf lent es → AreUnseated b.next lent
    → ((n : ℕ) → is_held lent (Wheel n) ≡ false) → ComeBack b d q lent new → new.wheels ≡ b.wheels.items → Makes b d q es call
    → (b.next ≡ 1 → Settles (settings_of d) (state (settings_of d) (front_of b.pass)) es timer left)
    → ((n : ℕ) → left ≡ Some n → Hits (settings_of d) timer es) → new.keeper ≡ b.keeper → CancelOnly timer left es
    → DoesBut timer left before d q b.next new call
finish_but before b d q new es lent timer left call has turns belongs takes only unseated apart back wheels allowed settles hits same cancels =
    let g : Settings = settings_of d in
    let own = own_unseated g (view_of b.pass) es (view_of q) b.next lent has.fit.holds takes only unseated in
    let grows : Grows (call (seen_at d b) (way_of (seen_at d b))) (front_of b.pass) (front_of q) = record {
      piece = takes.later;
      grown = takes.grown;
      made = allowed takes.later takes.grown own;
    } in
    record {
      fit = fit_on d b.pass q b.next (parts_in b) new es lent has.fit belongs takes only back;
      goes = subst (λ w. GoesBut timer left w (call w) (seen d q b.next new.keeper new.wheels new.turns)) has.is (record {
        grows = grows;
        lone = lone (seen_at d b) (front_of q) (call (seen_at d b)) grows;
        legal = takes.legal;
        table = refl;
        settings = refl;
        clock = same;
        next = refl;
        turns = subst (TurnsGrow b.list) (sym turns) (turns_same b.list);
        wheels = wheels;
        cancels = record { piece = takes.later; grown = takes.grown; only = subst (CancelOnly timer left) (sym own) cancels };
        tidy = subst (λ ws. StayTidyBut timer left (seen_at d b) (seen d q b.next new.keeper ws new.turns)) (sym wheels) (settled_tidy b d q new es timer left has takes settles);
        gone = gone_in before b d q es lent timer left (seen d q b.next new.keeper new.wheels new.turns) has takes only apart hits refl refl wheels;
      });
    }

-- caller 0 cancels a timer
pub cancel_called : (before : Seen) (b : Inside) (d : Desk) (q : Pass) (timer : TimerRef) (left : Option ℕ) → Has before b d → Belongs d q
    → IsMade (settings_of d) (view_of b.pass) (Cancels (settings_of d) (Caller 0) timer left) (view_of q)
    → DoesBut timer left before d q b.next (parts_in b) (λ w. By w (λ g. Cancels g (Caller 0) timer left))
cancel_called before b d q timer left has belongs made =
    let g : Settings = settings_of d in
    let s : State = state g (front_of b.pass) in
    let only = cancel_only g (Caller 0) timer left s made.entries made.allowed in
    finish_but before b d q (parts_in b) made.entries (Caller 0 ∷ []) timer left (λ w. By w (λ g. Cancels g (Caller 0) timer left)) has refl belongs made.call only
    (refl, tt) (λ n. refl) (caller_back g (front_of q) [] (parts_in b) 0) refl
    (makes b d q made.entries (λ g. Cancels g (Caller 0) timer left) made.allowed)
    (λ alone. cancel_settles g (Caller 0) timer left s made.entries made.allowed
    (added d b.pass q made.entries (exact b d q made.entries has made.call alone) made.call.legal))
    (λ n is. cancels_hit g (Caller 0) timer n s made.entries (subst (λ l. Cancels g (Caller 0) timer l s made.entries) is made.allowed))
    refl (cancel_cancels g (Caller 0) timer left s made.entries made.allowed)

-- a wheel that changed without an entry comes back
pub put_back : (d : Desk) (q : Pass) (next : ℕ) (parts : AllParts) (i : ℕ) (old new : Part) → AreFit d q next parts → i < (settings_of d).schedulers
    → old ≡ slice_index_or parts.wheels i old → new.number ≡ old.number → WheelStands (settings_of d) (front_of q) new
    → AreFit d q next (record parts { wheels = slice_set parts.wheels i new })
put_back d q next parts i old new fit low lent named stands =
    let g : Settings = settings_of d in
    record {
      belongs = fit.belongs;
      holds = fit.holds;
      stand = wheel_back g (front_of q) [] parts i new low (named ∙ wheel_named g (front_of q) [] parts i old fit.stand low lent) stands
          (lend g (front_of q) (Wheel i ∷ []) parts fit.stand);
    }

-- the wheel of a timer forgets it
forgot : (d : Desk) (q : Pass) (next : ℕ) (parts : AllParts) (old new : Part) (timer : TimerRef) → AreFit d q next parts
    → timer.wheel < (settings_of d).schedulers → old ≡ slice_index_or parts.wheels timer.wheel old → WheelStands (settings_of d) (front_of q) new
    → LosesRows old new → (IsHeld new timer → ⊥)
    → Forgets timer (seen d q next parts.keeper parts.wheels parts.turns) (seen d q next parts.keeper (slice_set parts.wheels timer.wheel new) parts.turns)
forgot d q next parts old new timer fit low lent stands loses gone =
    let s : State = state (settings_of d) (front_of q) in
    let ws : List Part = parts.wheels in
    let i : ℕ = timer.wheel in
    let wide : i < length ws = rw fit.stand.wheels.counted low in
    record {
      table = refl;
      history = refl;
      settings = refl;
      clock = refl;
      next = refl;
      turns = refl;
      rows = rows_set ws i old new wide lent loses;
      forgotten = λ x. at_place (λ (y : Part). IsHeld y timer → ⊥) ws i i new x wide (λ one. gone) (λ other. absurd (other refl));
      tidy = λ j in_range but x.
          at_place (λ (y : Part). IsTidy s y) ws i j new x wide
          (λ one. tidy_forgot (settings_of d) (front_of q) old new timer stands loses gone
          (subst (λ (y : Part). IsTidyBut s y timer) (sym lent) (subst (λ n. IsTidyBut s (slice_index_or ws n old) timer) one (but old))))
          (λ other k key held. but x k key held (λ same.
          other (sym (fit.stand.wheels.named j x in_range) ∙ ap (λ (r : TimerRef). r.wheel) same)));
    }
  where
    tidy_forgot : (g : Settings) (h : List Entry) (p q : Part) (timer : TimerRef) → WheelStands g h q → LosesRows p q → (IsHeld q timer → ⊥)
        → IsTidyBut (state g h) p timer → IsTidy (state g h) q
    tidy_forgot g h p q timer stands loses gone but k key held =
        let same : last_timer q.number q.slots k ≡ last_timer p.number p.slots k = same_last p q k loses in
        let low : k < length q.slots = omega (arith, key_low q.keys k key held, stands.holds.wide, stands.holds.many) in
        ap (state g h).status same ∙ but k key (loses.left k key held) (λ is.
        let slot : k ≡ timer.slot = ap (λ (r : TimerRef). r.slot) is in
        gone (record {
          low = subst (λ n. n < length q.slots) slot low;
          named = sym is ∙ (sym same ∙ ap (last_timer q.number q.slots) slot);
          row = λ none. (let clash : None ≡ Some key = sym (ap (key_in q.keys) slot ∙ none) ∙ held in cc);
        }))

-- the parts of a world after a call that may have cancelled a timer, whose row went then
pub record DoesCancel (before : Seen) (d : Desk) (q : Pass) (next : ℕ) (parts : AllParts) (call : Seen → Way → Growth) : Type 0 where
  pub fit : AreSound d q next parts
  pub goes : Goes before (call before) (seen d q next parts.keeper parts.wheels parts.turns)
  pub stays : Stays before (seen d q next parts.keeper parts.wheels parts.turns)

pub does_cancel_at : {before : Seen} {d e : Desk} {q : Pass} {next : ℕ} {parts : AllParts} {call : Seen → Way → Growth} → d ≡ e
    → DoesCancel before d q next parts call → DoesCancel before e q next parts call
does_cancel_at {before} {d} {e} {q} {next} {parts} {call} same done = subst (λ x. DoesCancel before x q next parts call) same done

-- a call that cancelled a timer, whose row then went
pub goes_forgetting : (timer : TimerRef) (left : ℕ) (old mid new : Seen) (call : Way → Growth) → GoesBut timer (Some left) old call mid → Forgets timer mid new
    → Goes old call new
goes_forgetting timer left old mid new call goes forgets =
    went old new call (subst (λ h. Grows (call (way_of old)) old.history h) (sym forgets.history) goes.grows)
    (subst (λ h. Legal new.settings h) (sym forgets.history) (subst (λ g. Legal g mid.history) (sym forgets.settings) goes.legal))
    (forgets.table ∙ goes.table) (forgets.settings ∙ goes.settings) (forgets.clock ∙ goes.clock) (forgets.next ∙ goes.next)
    (subst (TurnsGrow old.turns) (sym forgets.turns) goes.turns)

-- its wheels forget what it cancelled
forgets_only : (w : Seen) (timer : TimerRef) (left : Option ℕ) (es : List Entry) → CancelOnly timer left es → HasForgotten w timer → HasForgottenAll w es
forgets_only w timer left [] only gone = tt
forgets_only w timer left (e ∷ es) only gone =
    (λ t n is. subst (HasForgotten w) (sym (only.0 t n is).0) gone, forgets_only w timer left es only.1 gone)

stays_forgetting : (timer : TimerRef) (left : ℕ) (old mid new : Seen) (call : Way → Growth) → GoesBut timer (Some left) old call mid → Forgets timer mid new
    → Stays old new
stays_forgetting timer left old mid new call goes forgets =
    stays_by (goes_forgetting timer left old mid new call goes forgets)
    (subst (λ (ws : List Part). (i : ℕ) (d : Part) → LosesRows (slice_index_or ws i d) (slice_index_or new.wheels i d)) goes.wheels forgets.rows)
    (record {
      piece = goes.cancels.piece;
      grown = forgets.history ∙ goes.cancels.grown;
      forgotten = forgets_only new timer (Some left) (filter (is_unseated old.next) goes.cancels.piece) goes.cancels.only forgets.forgotten;
    })

-- where nothing was cancelled there is nothing to forget
none_cancelled : (w : Seen) (timer : TimerRef) (es : List Entry) → CancelOnly timer None es → HasForgottenAll w es
none_cancelled w timer [] only = tt
none_cancelled w timer (e ∷ es) only =
    (λ t n is. absurd (let clash : None ≡ Some n = (only.0 t n is).1 in cc), none_cancelled w timer es only.1)

goes_none : {timer : TimerRef} {old new : Seen} {call : Way → Growth} → GoesBut timer None old call new → Goes old call new
goes_none goes = record {
  grows = goes.grows;
  lone = goes.lone;
  legal = goes.legal;
  table = goes.table;
  settings = goes.settings;
  clock = goes.clock;
  next = goes.next;
  turns = goes.turns;
}

stays_none : (timer : TimerRef) (old new : Seen) (call : Way → Growth) → GoesBut timer None old call new → Stays old new
stays_none timer old new call but =
    stays_by (goes_none but) (rows_same old new but.wheels) (record {
      piece = but.cancels.piece;
      grown = but.cancels.grown;
      forgotten = none_cancelled new timer (filter (is_unseated old.next) but.cancels.piece) but.cancels.only;
    })

-- each wheel of a world is tidy
all_tidy : (before : Seen) (b : Inside) (d : Desk) → Has before b d → before.next ≡ 1 → (i : ℕ) → i < before.settings.schedulers → IsTidyAt before i
all_tidy before b d has alone i low =
    subst (λ (w : Seen). IsTidyAt w i) has.is
    (λ x. has.tidy (ap (λ (w : Seen). w.next) has.is ∙ alone) i x (schedulers_at has i low))

-- a call that cancelled nothing
pub cancelled_none : (before : Seen) (b : Inside) (d : Desk) (q : Pass) (parts : AllParts) (timer : TimerRef) (call : Seen → Way → Growth) → Has before b d
    → DoesBut timer None before d q b.next parts call → DoesCancel before d q b.next parts call
cancelled_none before b d q parts timer call has done = record {
  fit = record {
    fit = done.fit;
    tidy = λ alone i x low.
        let one : before.next ≡ 1 = ap (λ (w : Seen). w.next) (sym has.is) ∙ alone in
        let below : i < before.settings.schedulers = subst (λ g. i < g.schedulers) done.goes.settings low in
        done.goes.tidy one i below (all_tidy before b d has one i below) x;
  };
  goes = goes_none done.goes;
  stays = stays_none timer before (seen d q b.next parts.keeper parts.wheels parts.turns) (call before) done.goes;
}

-- one that cancelled nothing, since a seat had settled the timer before, whose row then went
pub cancelled_settled : (before : Seen) (b : Inside) (d : Desk) (q : Pass) (parts : AllParts) (timer : TimerRef) (old new : Part) (call : Seen → Way → Growth)
    → Has before b d → DoesBut timer None before d q b.next parts call → timer.wheel < (settings_of d).schedulers
    → old ≡ slice_index_or parts.wheels timer.wheel old → new.number ≡ old.number → WheelStands (settings_of d) (front_of q) new
    → LosesRows old new → (IsHeld new timer → ⊥)
    → DoesCancel before d q b.next (record parts { wheels = slice_set parts.wheels timer.wheel new }) call
cancelled_settled before b d q parts timer old new call has done low lent named stands loses gone =
    let end : Seen = seen d q b.next parts.keeper (slice_set parts.wheels timer.wheel new) parts.turns in
    let forgets = forgot d q b.next parts old new timer done.fit low lent stands loses gone in
    let goes : Goes before (call before) end = record {
      grows = done.goes.grows;
      lone = done.goes.lone;
      legal = done.goes.legal;
      table = done.goes.table;
      settings = done.goes.settings;
      clock = done.goes.clock;
      next = done.goes.next;
      turns = done.goes.turns;
    } in
    record {
      fit = record {
        fit = put_back d q b.next parts timer.wheel old new done.fit low lent named stands;
        tidy = λ alone i x in_range.
            let one : before.next ≡ 1 = ap (λ (w : Seen). w.next) (sym has.is) ∙ alone in
            let below : i < before.settings.schedulers = subst (λ g. i < g.schedulers) done.goes.settings in_range in
            let tidy = done.goes.tidy one i below (all_tidy before b d has one i below) in
            forgets.tidy i in_range (λ y k key held apart. tidy y k key held) x;
      };
      goes = goes;
      stays = stays_by goes
          (subst (λ (ws : List Part). (i : ℕ) (d : Part) → LosesRows (slice_index_or ws i d) (slice_index_or end.wheels i d)) done.goes.wheels forgets.rows)
          (record {
            piece = done.goes.cancels.piece;
            grown = done.goes.cancels.grown;
            forgotten = none_cancelled end timer (filter (is_unseated before.next) done.goes.cancels.piece) done.goes.cancels.only;
          });
    }

-- one that cancelled a timer, whose row then went
pub cancelled_some : (before : Seen) (b : Inside) (d : Desk) (q : Pass) (parts : AllParts) (timer : TimerRef) (left : ℕ) (old new : Part)
    (call : Seen → Way → Growth) → Has before b d → DoesBut timer (Some left) before d q b.next parts call
    → old ≡ slice_index_or parts.wheels timer.wheel old → new.number ≡ old.number → WheelStands (settings_of d) (front_of q) new
    → LosesRows old new → (IsHeld new timer → ⊥)
    → DoesCancel before d q b.next (record parts { wheels = slice_set parts.wheels timer.wheel new }) call
cancelled_some before b d q parts timer left old new call has done lent named stands loses gone =
    let mid : Seen = seen d q b.next parts.keeper parts.wheels parts.turns in
    let end : Seen = seen d q b.next parts.keeper (slice_set parts.wheels timer.wheel new) parts.turns in
    let low : timer.wheel < (settings_of d).schedulers = done.goes.gone.0 in
    let forgets : Forgets timer mid end = forgot d q b.next parts old new timer done.fit low lent stands loses gone in
    record {
      fit = record {
        fit = put_back d q b.next parts timer.wheel old new done.fit low lent named stands;
        tidy = λ alone i x in_range.
            let one : before.next ≡ 1 = ap (λ (w : Seen). w.next) (sym has.is) ∙ alone in
            let below : i < before.settings.schedulers = subst (λ g. i < g.schedulers) done.goes.settings in_range in
            forgets.tidy i in_range (done.goes.tidy one i below (all_tidy before b d has one i below)) x;
      };
      goes = goes_forgetting timer left before mid end (call before) done.goes forgets;
      stays = stays_forgetting timer left before mid end (call before) done.goes forgets;
    }

-- the same where it is only known that something was left
pub cancelled_was : (before : Seen) (b : Inside) (d : Desk) (q : Pass) (parts : AllParts) (timer : TimerRef) (left : Option ℕ) (old new : Part)
    (call : Seen → Way → Growth) → is_some left ≡ true → Has before b d → DoesBut timer left before d q b.next parts call
    → old ≡ slice_index_or parts.wheels timer.wheel old → new.number ≡ old.number → WheelStands (settings_of d) (front_of q) new
    → LosesRows old new → (IsHeld new timer → ⊥)
    → DoesCancel before d q b.next (record parts { wheels = slice_set parts.wheels timer.wheel new }) call
cancelled_was before b d q parts timer None old new call some has done lent named stands loses gone = absurd cc
cancelled_was before b d q parts timer (Some left) old new call some has done lent named stands loses gone =
    cancelled_some before b d q parts timer left old new call has done lent named stands loses gone

pub cancelled_not : (before : Seen) (b : Inside) (d : Desk) (q : Pass) (parts : AllParts) (timer : TimerRef) (left : Option ℕ) (call : Seen → Way → Growth)
    → is_some left ≡ false → Has before b d → DoesBut timer left before d q b.next parts call → DoesCancel before d q b.next parts call
cancelled_not before b d q parts timer None call none has done = cancelled_none before b d q parts timer call has done
cancelled_not before b d q parts timer (Some left) call none has done = absurd cc

-- the wheel of a timer holds no row of it
pub gone_set : (ws : List Part) (i : ℕ) (new : Part) (timer : TimerRef) → i < length ws → (IsHeld new timer → ⊥)
    → (x : Part) → IsHeld (slice_index_or (slice_set ws i new) i x) timer → ⊥
gone_set ws i new timer wide gone x = at_place (λ (y : Part). IsHeld y timer → ⊥) ws i i new x wide (λ one. gone) (λ other. absurd (other refl))

-- a pass of a desk has its settings
same_settings : (d : Desk) (q : Pass) (g : Settings) → Belongs d q → (view_of q).settings ≡ Some g → settings_of d ≡ g
same_settings d q g belongs named = (let same : Some (settings_of d) ≡ Some g = sym belongs.named ∙ named in cc)

-- the wheel of a timer that was cancelled stands, and the timer is settled and the last of its slot
pub stands_then : (d : Desk) (q : Pass) (next : ℕ) (parts : AllParts) (i : ℕ) (old : Part) → AreFit d q next parts → i < (settings_of d).schedulers
    → old ≡ slice_index_or parts.wheels i old → (g : Settings) → (view_of q).settings ≡ Some g → WheelStands g (front_of q) old
stands_then d q next parts i old fit low lent g named =
    subst (λ (x : Settings). WheelStands x (front_of q) old) (same_settings d q g fit.belongs named)
    (subst (WheelStands (settings_of d) (front_of q)) (sym lent) (fit.stand.wheels.stand i old low refl))

pub settled_then : (d : Desk) (q : Pass) (timer : TimerRef) → Belongs d q → (state (settings_of d) (front_of q)).status timer ≢ Some Armed
    → (g : Settings) → (view_of q).settings ≡ Some g → (state g (front_of q)).status timer ≢ Some Armed
settled_then d q timer belongs settled g named =
    subst (λ (x : Settings). (state x (front_of q)).status timer ≢ Some Armed) (same_settings d q g belongs named) settled
