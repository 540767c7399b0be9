-- What a pass knows of a timer that it cancelled, or whose message it handed over.

use Rattle.std.proofs.Common.{◌≡◌, ◌≢◌, ◌⊎◌, ⊎_elim, ℕ, ◌<◌, Bool, true, false, List, [], ◌∷◌, ◌++◌, filter, Option, Some, None, Ok, inl, inr, refl, sym, ap, subst, ◌∙◌}
use Rattle.std.proofs.lemmas.Bool.{cases_eq}
use Rattle.std.specs.FinSet as set
use Rattle.ert_defs.specs.{Actors.{has_actor, IsFree}, Entries.{is_ours, cancel_entry}, Legal.{Can, Legal, LegalFrom, left_by}, Laws.IsExpired, Mails.first_of, States.{State, opening, next, run, state}, Timers.{Row, handed_as, is_taken}}
use Rattle.ert_defs.specs.{Timers.{status_after, timer_at}, declared.entry.Actor.Actor, declared.entry.Actor.TheVariants.Wheel, declared.entry.Entry.Entry, declared.entry.Event.Event, declared.entry.Event.TheVariants.{Deliver, Drop}}
use Rattle.ert_defs.specs.{declared.settings.Settings.Settings, declared.timer.Status.Status, declared.timer.Status.TheVariants.{Armed, Expired, Delivered, Cancelled, Orphaned, Dropped}, declared.timer.TimerRef.TimerRef}
use Rattle.ert_defs.proofs.{ExpiredLists.{first_at, expired_timers}, ExpiredTimers.{hands, row_named, same_timer_self}, Runs.{free_first, free_rest, legal_then, state-append}, Slots.ordered, Standing.{all_stand, of_row}, Statuses.Forward}
use Rattle.ert_defs.proofs.{Statuses.{forward_after, forward_not_armed, free_stays}}
use Rattle.ert_effects.specs.{MailCalls.{HandsOver, handed_entries}, declared.answers.Handed.Handed, declared.answers.Handed.TheVariants.{Put, Dropped as Thrown}}
use Rattle.ert_laws.specs.Ranges.{IsPlaced}
use Rattle.ert_laws.proofs.RowRanges.{rows_placed}
use Rattle.ert_table.specs.{Calls.IsMade, Takes.TakesPlace, declared.view.View.View}
use Rattle.ert_timers.specs.{Freeing.{IsLast, IsLetGo}, Parts.{Part, PartStands, last_timer, slot_at}}
use Rattle.ert_timers.proofs.Later.{live_unexpired, was_armed}
use Rattle.ert_wheel.specs.{Rows.key_in, declared.row.Key.Key}

-- one of these entries is such
abbrev pub HasOne : (Entry → Type 0) → List Entry → Type 0
HasOne D [] = ⊥
HasOne D (e ∷ es) = D e ⊎ HasOne D es

pub has_front : (D : Entry → Type 0) (es fs : List Entry) → HasOne D es → HasOne D (es ++ fs)
has_front D [] fs has = absurd has
has_front D (e ∷ es) fs has = ⊎_elim (λ one. inl one) (λ more. inr (has_front D es fs more)) has

-- of some actors' entries the first is such, or a later one
pub one_of : (D : Entry → Type 0) (actors : List Actor) (e : Entry) (m : List Entry) (P : Type 0) → (D e → P)
    → (HasOne D (filter (is_ours actors) m) → P) → HasOne D (filter (is_ours actors) (e ∷ m)) → P
one_of D actors e m P here more has = at (is_ours actors e) refl
  where
    at : (b : Bool) → is_ours actors e ≡ b → P
    at true is =
        let mine : filter (is_ours actors) (e ∷ m) ≡ e ∷ filter (is_ours actors) m = rw is refl in
        ⊎_elim here more (subst (HasOne D) mine has)
    at false is =
        let theirs : filter (is_ours actors) (e ∷ m) ≡ filter (is_ours actors) m = rw is refl in
        more (subst (HasOne D) theirs has)

-- a cancel of a timer that hit
abbrev pub IsHit : TimerRef → Entry → Type 0
IsHit timer e = (by : Actor) × (left : ℕ) × (e ≡ cancel_entry by timer (Some left))

pub left_some : (g : Settings) (look : _) (x : Option Status) (row : Option Row) (n : ℕ) → Some n ≡ left_by g look x row → x ≡ Some Armed
left_some g look None row n is = absurd cc
left_some g look (Some Armed) row n is = refl
left_some g look (Some Expired) row n is = absurd cc
left_some g look (Some Delivered) row n is = absurd cc
left_some g look (Some Cancelled) row n is = absurd cc
left_some g look (Some Orphaned) row n is = absurd cc
left_some g look (Some Dropped) row n is = absurd cc

module _ (g : Settings) (actors : List Actor) (timer : TimerRef) where
  -- what others do moves a timer forward
  moved : (s : State) (e : Entry) (m : List Entry) → IsFree (e ∷ m) (Wheel timer.wheel) → Forward (s.status timer) ((next g s e).status timer)
  moved s e m free =
      let none : has_actor e (Wheel timer.wheel) ≡ false = free_first (Wheel timer.wheel) e m free in
      forward_after timer (has_actor e (Wheel timer.wheel)) (s.status timer) e.event (rw none refl)

  -- before a cancel hit, its timer was armed
  hit_armed : (s : State) (m : List Entry) → LegalFrom g s m → IsFree m (Wheel timer.wheel) → HasOne (IsHit timer) (filter (is_ours actors) m)
      → s.status timer ≡ Some Armed
  hit_armed s [] legal free has = absurd has
  hit_armed s (e ∷ m) legal free has =
      one_of (IsHit timer) actors e m (s.status timer ≡ Some Armed)
      (λ hit. left_some g (s.looked hit.0) (s.status timer) _ hit.1 (subst (Can g s) hit.2 legal.0).found)
      (λ more. was_armed (s.status timer) ((next g s e).status timer) (moved s e m free)
      (hit_armed (next g s e) m legal.1 (free_rest (Wheel timer.wheel) e m free) more)) has

  handed_not : (to : Status) → is_taken (Some to) ≡ false → (x : Option Status) → x ≢ Some Armed → is_taken (handed_as to x) ≡ false
  handed_not to free None not = refl
  handed_not to free (Some Armed) not = absurd (not refl)
  handed_not to free (Some Expired) not = free
  handed_not to free (Some Delivered) not = refl
  handed_not to free (Some Cancelled) not = refl
  handed_not to free (Some Orphaned) not = refl
  handed_not to free (Some Dropped) not = refl

  hands_free : (b : Bool) (x : Option Status) (event : Event) → hands event timer ≡ true → x ≢ Some Armed
      → is_taken (status_after timer b x event) ≡ false
  hands_free b x (Deliver t) is not = rw is (handed_not Delivered refl x not)
  hands_free b x (Drop t) is not = rw is (handed_not Dropped refl x not)
  hands_free b x _ is not = absurd cc

  -- after its message was handed over, a timer takes its slot no more
  hands_taken : (s : State) (m : List Entry) → IsFree m (Wheel timer.wheel) → s.status timer ≢ Some Armed
      → HasOne (λ e. hands e.event timer ≡ true) (filter (is_ours actors) m) → is_taken ((run g s m).status timer) ≡ false
  hands_taken s [] free not has = absurd has
  hands_taken s (e ∷ m) free not has =
      let rest : IsFree m (Wheel timer.wheel) = free_rest (Wheel timer.wheel) e m free in
      one_of (λ e. hands e.event timer ≡ true) actors e m (is_taken ((run g (next g s e) m).status timer) ≡ false)
      (λ here. free_stays g timer (next g s e) m rest (hands_free (has_actor e (Wheel timer.wheel)) (s.status timer) e.event here not))
      (hands_taken (next g s e) m rest (forward_not_armed (s.status timer) ((next g s e).status timer) (moved s e m free) not)) has

-- a timer that takes its slot is the last of it
pub taken_last : (g : Settings) (h : List Entry) (p : Part) (timer : TimerRef) → PartStands g h p → timer.wheel ≡ p.number
    → is_taken ((state g h).status timer) ≡ true → IsLast p timer
taken_last g h p timer stands wheel taken =
    let s : State = state g h in
    let row = all_stand g h stands.legal timer (λ none. (let no : false ≡ true = ap is_taken (sym none) ∙ taken in cc)) in
    let placed : IsPlaced g timer.wheel row.row =
    of_row (IsPlaced g timer.wheel) (s.rows timer.wheel) timer row.row (rows_placed g h timer.wheel stands.legal) row.is in
    let low = subst (λ (t : TimerRef). t.slot < g.slots) (row_named (s.rows timer.wheel) row.row timer row.is) placed.place.slot_high in
    let last : timer.generation ≡ s.last timer.wheel timer.slot =
    elim (cases_eq timer.generation (s.last timer.wheel timer.slot)) [
      | inl same ↦ same
      | inr other ↦ absurd (let no : true ≡ false = sym taken ∙ (ordered g h stands.legal timer.wheel timer.slot).free timer.generation other in cc)
    ] in
    let named : timer ≡ last_timer p.number p.slots timer.slot =
    ap (λ n. timer_at timer.wheel timer.slot n) (last ∙ (ap (λ w. s.last w timer.slot) wheel ∙ sym (stands.holds.lasts timer.slot low)))
    ∙ ap (λ w. timer_at w timer.slot (slot_at p.slots timer.slot).generation) wheel in
    record {
      low = subst (λ n. timer.slot < n) (sym stands.holds.many) low;
      named = named;
      used = inl (not_true (set.contains p.free timer.slot) (λ held.
          let no : true ≡ false = sym taken ∙ (ap (λ t. is_taken (s.status t)) named ∙ stands.holds.free timer.slot held) in cc));
    }
  where
    not_true : (b : Bool) → (b ≡ true → ⊥) → b ≡ false
    not_true true never = absurd (never refl)
    not_true false never = refl

-- what a pass cancelled was the last timer of its slot
pub hit_last : (g : Settings) (v : View) (es : List Entry) (u : View) (p : Part) (timer : TimerRef) → PartStands g v.front p
    → timer.wheel ≡ p.number → (takes : TakesPlace g v es u) → IsFree takes.later (Wheel timer.wheel) → HasOne (IsHit timer) es → IsLast p timer
hit_last g v es u p timer stands wheel takes free has =
    let legal : LegalFrom g (state g v.front) takes.later =
    legal_then g (opening g) v.front takes.later (subst (Legal g) takes.grown takes.legal) in
    taken_last g v.front p timer stands wheel
    (ap is_taken (hit_armed g v.actors timer (state g v.front) takes.later legal free (subst (HasOne (IsHit timer)) (sym takes.ours) has)))

-- the first expired timer of a scheduler was let go
pub expired_let_go : (g : Settings) (h : List Entry) (p : Part) (waiting : Row) → PartStands g h p
    → first_of ((state g h).scheds p.number).expired ≡ Some waiting → IsLetGo p waiting.timer
expired_let_go g h p waiting stands first =
    let s : State = state g h in
    let is : IsExpired s p.number waiting = first_at (IsExpired s p.number) (s.scheds p.number).expired waiting first (expired_timers g h p.number stands.legal).each in
    let last : IsLast p waiting.timer = taken_last g h p waiting.timer stands is.wheel (ap is_taken is.expired) in
    let expired : s.status (last_timer p.number p.slots waiting.timer.slot) ≡ Some Expired = ap s.status (sym last.named) ∙ is.expired in
    record {
      low = last.low;
      named = last.named;
      vacant = vacant (key_in p.keys waiting.timer.slot) refl expired;
      away = away (set.contains p.free waiting.timer.slot) refl expired;
    }
  where
    vacant : (o : Option Key) → key_in p.keys waiting.timer.slot ≡ o → (state g h).status (last_timer p.number p.slots waiting.timer.slot) ≡ Some Expired
        → key_in p.keys waiting.timer.slot ≡ None
    vacant None is expired = is
    vacant (Some key) is expired = absurd (live_unexpired ((state g h).status (last_timer p.number p.slots waiting.timer.slot)) (stands.holds.rows.live waiting.timer.slot key is) expired)

    away : (b : Bool) → set.contains p.free waiting.timer.slot ≡ b
        → (state g h).status (last_timer p.number p.slots waiting.timer.slot) ≡ Some Expired → set.contains p.free waiting.timer.slot ≡ false
    away false is expired = is
    away true is expired =
        let no : true ≡ false = ap is_taken (sym expired) ∙ stands.holds.free waiting.timer.slot is in
        absurd cc

-- and after its message was handed over it takes its slot no more
pub handed_free : (g : Settings) (v u : View) (w : ℕ) (waiting : Row) (how : Handed) → Legal g v.front
    → first_of ((state g v.front).scheds w).expired ≡ Some waiting → (made : IsMade g v (HandsOver g w waiting (Ok how)) u)
    → IsFree made.call.later (Wheel w) → is_taken ((state g u.front).status waiting.timer) ≡ false
handed_free g v u w waiting how legal first made free =
    let s : State = state g v.front in
    let r : TimerRef = waiting.timer in
    let is : IsExpired s w waiting = first_at (IsExpired s w) (s.scheds w).expired waiting first (expired_timers g v.front w legal).each in
    subst (λ (t : State). is_taken (t.status r) ≡ false) (sym (ap (state g) made.call.grown ∙ state-append g v.front made.call.later))
    (hands_taken g v.actors r s made.call.later (subst (λ n. IsFree made.call.later (Wheel n)) (sym is.wheel) free)
    (λ armed. let no : Some Armed ≡ Some Expired = sym armed ∙ is.expired in cc)
    (subst (HasOne (λ e. hands e.event r ≡ true)) (sym (made.call.ours ∙ made.allowed)) (at how)))
  where
    at : (how : Handed) → HasOne (λ e. hands e.event waiting.timer ≡ true) (handed_entries w waiting how)
    at Put = inr (inl (same_timer_self waiting.timer))
    at Thrown = inr (inl (same_timer_self waiting.timer))
