-- The clock's own steps on a pass: whatever others did between, the clock moves by those steps alone.

use Rattle.std.proofs.Common.{◌≡◌, ℕ, ℤ, Bool, true, false, List, [], ◌∷◌, ◌++◌, Option, Some, None, refl, sym, subst, ap, ◌∙◌}
use Rattle.std.specs.Prelude.{option_map, Err}
use Rattle.ert_effects.specs.ClockCalls.{RefusesTick, ActsOnReading, Finalizes}
use Rattle.ert_clock.proofs.Stand.{shown_is, owed, stands_none, stands_some, stands_kept}
use Rattle.ert_clock.specs.{Shown.{Shown, ClockStands}, Ticks.{act_of, state_by, tick_entries, due_of, IsWide, Gives, ClockFinalizesFrom}, declared.clock.ClockErr.ClockErr, declared.clock.ClockErr.TheVariants.{BadReading, OffsetWide}}
use Rattle.ert_clock.specs.{declared.clock.Moved.Moved}
use Rattle.ert_defs.specs.{Entries.{keeper_entry, tick_entry}, Clocks.{Clock, clock_after}, Lines.{Face, MayAct}, States.{State, state}, declared.entry.Act.Act, declared.entry.Act.TheVariants.Finalize, declared.entry.Actor.Actor}
use Rattle.ert_defs.specs.{declared.entry.Actor.TheVariants.{Keeper, Caller}, declared.entry.Entry.Entry, declared.entry.Event.Event, declared.entry.Event.TheVariants.{Tick, Shift, Off}, declared.settings.OffsetState.OffsetState}
use Rattle.ert_defs.specs.{declared.settings.OffsetState.TheVariants.{Preliminary, Final, Volatile}, declared.settings.Reading.Reading, declared.settings.Settings.Settings}
use Rattle.ert_defs.proofs.Runs.{state-append, clock_stays}
use Rattle.ert_table.proofs.{Calls.{step_takes_place, takes_place_then}, Makings.none_made}
use Rattle.ert_table.specs.{Held.{is_held, least_caller}, Calls.IsMade, Takes.{MayStep, Appends, TakesPlace}, declared.view.View.View, Published.{HoldsKeeper, IsAhead, IsStill}}

-- after the clock's own step its clock is that of the front before, moved by that step
pub keeper_front : (g : Settings) (v w : View) (n : ℕ) (event : Event) → is_held v.actors Keeper ≡ true
    → Appends g v (keeper_entry n event) w → (state g w.front).clock ≡ clock_after g (state g v.front).clock event
keeper_front g v w n event held step =
    let e : Entry = keeper_entry n event in
    let between : (state g (v.front ++ step.between)).clock ≡ (state g v.front).clock =
    ap (λ (s : State). s.clock) (state-append g v.front step.between)
    ∙ clock_stays g (state g v.front) step.between (step.others Keeper held) in
    ap (λ (h : List Entry). (state g h).clock) step.grown
    ∙ ap (λ (s : State). s.clock) (state-append g (v.front ++ step.between) (e ∷ []))
    ∙ ap (λ (c : Clock). clock_after g c event) between

-- a pass holds after a step what it held
pub holds_on : (g : Settings) (v w : View) (n : ℕ) (e : Entry) → HoldsKeeper g v n → Appends g v e w → HoldsKeeper g w n
holds_on g v w n e holds step = record {
  keeper = subst (λ (actors : List Actor). is_held actors Keeper ≡ true) (sym step.actors) holds.keeper;
  caller = subst (λ (actors : List Actor). is_held actors (Caller n) ≡ true) (sym step.actors) holds.caller;
  below = holds.below;
}

-- once the time is stored to which the clock went ahead, so may be the offset of the shift
pub may_store_offset : (g : Settings) (v w : View) (n : ℕ) (r : Reading) (act : Act) (m : Moved) (new : Shown) (offset : ℤ)
    → HoldsKeeper g v n → IsAhead g v.front r act m new → m.shift ≡ Some offset
    → Appends g v (tick_entry n r act m.now) w → MayStep g w (keeper_entry n (Shift offset (state_by act)))
may_store_offset g v w n r act m new offset holds ahead some step =
    let now : HoldsKeeper g w n = holds_on g v w n (tick_entry n r act m.now) holds step in
    record {
      ours = (now.keeper, now.caller);
      keeps = (refl, now.below);
      known = owed g v.front ahead.old r act m new offset (state g w.front) Keeper (Some (Caller n)) ahead.stands ahead.gives some
          (keeper_front g v w n (Tick r act m.now) holds.keeper step);
    }

-- a call took place with these entries, and the clock stands for the front that it left
pub record Published (g : Settings) (v : View) (es : List Entry) (w : View) (now : Shown) : Type 0 where
  pub takes : TakesPlace g v es w
  pub stands : ClockStands g w.front now

-- a tick without a shift was published
pub tick_published : (g : Settings) (v w : View) (n : ℕ) (r : Reading) (act : Act) (m : Moved) (new : Shown)
    → HoldsKeeper g v n → IsAhead g v.front r act m new → m.shift ≡ None
    → Appends g v (tick_entry n r act m.now) w → Published g v (tick_entries n r act m.now m.shift) w new
tick_published g v w n r act m new holds ahead none step = record {
  takes = subst (λ (shift : Option ℤ). TakesPlace g v (tick_entries n r act m.now shift) w) (sym none)
      (step_takes_place g v (tick_entry n r act m.now) w step);
  stands = stands_none g v.front w.front ahead.old r act m new ahead.stands ahead.gives none step.legal
      (keeper_front g v w n (Tick r act m.now) holds.keeper step);
}

-- and one with a shift was
pub shift_published : (g : Settings) (v w x : View) (n : ℕ) (r : Reading) (act : Act) (m : Moved) (new : Shown) (offset : ℤ)
    → HoldsKeeper g v n → IsAhead g v.front r act m new → m.shift ≡ Some offset
    → Appends g v (tick_entry n r act m.now) w → Appends g w (keeper_entry n (Shift offset (state_by act))) x
    → Published g v (tick_entries n r act m.now m.shift) x new
shift_published g v w x n r act m new offset holds ahead some tick shift =
    let e : Entry = tick_entry n r act m.now in
    let d : Entry = keeper_entry n (Shift offset (state_by act)) in
    let now : HoldsKeeper g w n = holds_on g v w n e holds tick in
    let clock = keeper_front g w x n (Shift offset (state_by act)) now.keeper shift
    ∙ ap (λ (c : Clock). clock_after g c (Shift offset (state_by act))) (keeper_front g v w n (Tick r act m.now) holds.keeper tick) in
    record {
      takes = subst (λ (shift : Option ℤ). TakesPlace g v (tick_entries n r act m.now shift) x) (sym some)
          (takes_place_then g v w x (e ∷ []) (d ∷ []) (step_takes_place g v e w tick) (step_takes_place g w d x shift));
      stands = stands_some g v.front x.front ahead.old r act m new offset ahead.stands ahead.gives some shift.legal clock;
    }

-- what the clock's part read is its offset, with which it still stands
pub off_published : (g : Settings) (v w : View) (n : ℕ) (now : Shown) (offset : ℤ) (s : OffsetState)
    → HoldsKeeper g v n → IsStill g v n now
    → Appends g v (record { by = Keeper; with = option_map Caller (least_caller v.actors g.callers); event = Off offset s }) w
    → offset ≡ (state g w.front).clock.offset → s ≡ (state g w.front).clock.state
    → Published g v (keeper_entry n (Off now.face.offset now.face.state) ∷ []) w now
off_published g v w n now offset s holds still step offset_is state_is =
    let by : Appends g v (keeper_entry n (Off offset s)) w =
    subst (λ (least : Option ℕ). Appends g v (record { by = Keeper; with = option_map Caller least; event = Off offset s }) w)
    still.least step in
    let same = keeper_front g v w n (Off offset s) holds.keeper by in
    let stands : ClockStands g w.front now = stands_kept g v.front w.front now still.stands by.legal same in
    let offset_same : offset ≡ now.face.offset = offset_is ∙ sym (ap (λ (f : Face). f.offset) stands.face) in
    let state_same : s ≡ now.face.state = state_is ∙ sym (ap (λ (f : Face). f.state) stands.face) in
    record {
      takes = subst (λ (s : OffsetState). TakesPlace g v (keeper_entry n (Off now.face.offset s) ∷ []) w) state_same
          (subst (λ (x : ℤ). TakesPlace g v (keeper_entry n (Off x s) ∷ []) w) offset_same
          (step_takes_place g v (keeper_entry n (Off offset s)) w by));
      stands = stands;
    }

-- an act is refused where the clock refuses it
refuses : (g : Settings) (h : List Entry) (r : Reading) (act : Act) (e : ClockErr) (old new : Shown) → ClockStands g h old
    → MayAct act old.face.state → Gives old r act (Err e) new → RefusesTick g r act e (state g h) []
refuses g h r act BadReading old new stands may gives = record { invalid = gives.invalid; none = refl }
refuses g h r act (OffsetWide value) old new stands may gives = record {
  valid = gives.valid;
  may = subst (MayAct act) (ap (λ (f : Face). f.state) stands.face) may;
  wide = subst (λ (x : Shown). IsWide (due_of x r act) value) (shown_is g h old stands) gives.wide;
  none = refl;
}

may_force : (force : Bool) (s : OffsetState) → MayAct (act_of force) s
may_force true s = tt
may_force false s = tt

pub tick_refused : (g : Settings) (v w : View) (n : ℕ) (r : Reading) (force : Bool) (e : ClockErr) (old new : Shown) → ClockStands g v.front old
    → Gives old r (act_of force) (Err e) new → w ≡ v → IsMade g v (ActsOnReading g n r (act_of force) (Err e)) w
tick_refused g v w n r force e old new stands gives same =
    none_made g v w (ActsOnReading g n r (act_of force) (Err e)) stands.legal
    (refuses g v.front r (act_of force) e old new stands (may_force force old.face.state) gives) same

-- a finalization is refused where the clock refuses it
refuses_final : (g : Settings) (h : List Entry) (r : Reading) (e : ClockErr) (old new : Shown) (s : OffsetState) → s ≡ old.face.state
    → ClockFinalizesFrom s old r (Err e) new → ClockStands g h old → RefusesTick g r Finalize e (state g h) []
refuses_final g h r e old new Preliminary is from stands = refuses g h r Finalize e old new stands (sym is) from
refuses_final g h r BadReading old new Final is from stands = record { invalid = from.invalid; none = refl }
refuses_final g h r (OffsetWide value) old new Final is from stands = absurd from
refuses_final g h r BadReading old new Volatile is from stands = record { invalid = from.invalid; none = refl }
refuses_final g h r (OffsetWide value) old new Volatile is from stands = absurd from

pub final_refused : (g : Settings) (v w : View) (n : ℕ) (r : Reading) (e : ClockErr) (old new : Shown)
    → ClockFinalizesFrom old.face.state old r (Err e) new → ClockStands g v.front old → w ≡ v → IsMade g v (Finalizes g n r (Err e)) w
final_refused g v w n r e old new from stands same =
    none_made g v w (Finalizes g n r (Err e)) stands.legal
    (refuses_final g v.front r e old new old.face.state refl from stands) same
