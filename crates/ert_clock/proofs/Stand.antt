-- A clock that has ticked stands for the history with the entries of the tick last, and so far as others
-- make entries between: what the maker of each entry knows, and for which histories the clock then stands.

use Rattle.std.proofs.Common.{◌≡◌, ℕ, ◌<◌, ℤ, ◌-ℤ◌, refl, sym, subst, ap, ◌∙◌, Bool, true, false, cond, List, [], ◌∷◌, ◌++◌, Option, Some, None}
use Rattle.std.specs.Prelude.{Result, Ok, Err, nat_lt, unsigned_abs}
use Rattle.ert_defs.specs.{Actors.IsFree, Clocks.{Clock, face, clock_after}, Legal.{Can, Known, Legal}, Lines.{Face, Due, IsInRange, MayAct, shift_of, due_from, due_after, due_at, time_after, ticked, shifted}, Readings.IsValid}
use Rattle.ert_defs.specs.{States.{State, opening, next, state}, declared.entry.Act.Act, declared.entry.Act.TheVariants.{Plain, Force, Finalize}, declared.entry.Actor.Actor, declared.entry.Actor.TheVariants.{Keeper, Caller}}
use Rattle.ert_defs.specs.{declared.entry.Entry.Entry, declared.entry.Event.TheVariants.{Tick, Shift}, declared.settings.OffsetState.OffsetState, declared.settings.OffsetState.TheVariants.{Preliminary, Final, Volatile}}
use Rattle.ert_defs.specs.{declared.settings.Reading.Reading, declared.settings.Settings.Settings, Entries.{keeper_entry, tick_entry}}
use Rattle.ert_defs.proofs.Runs.{state-append, legal-append, legal_more, clock_stays}
use Rattle.ert_clock.specs.{Shown.{Shown, ClockStands}, Ticks.{act_of, offset_of, IsDone, Gives, state_by, tick_entries, ClockTicks, final_entries, ClockFinalizes}, declared.clock.ClockErr.ClockErr}
use Rattle.ert_clock.specs.{declared.clock.ClockErr.TheVariants.{BadReading, OffsetWide}, declared.clock.Moved.Moved}

-- what the clock of a history shows
abbrev pub shown_at : Settings → Clock → Shown
shown_at g c = record { settings = g; face = face g c }

-- a clock that stands for a history shows what the clock of that shows
pub shown_is : (g : Settings) (h : List Entry) (v : Shown) → ClockStands g h v → v ≡ shown_at g (state g h).clock
shown_is g h v st =
    ap (λ (k : Settings). record { settings = k; face = v.face }) st.settings
    ∙ ap (λ (f : Face). record { settings = g; face = f }) st.face

-- entries that leave the clock of the history as it was leave a clock standing
pub stands_kept : (g : Settings) (h after : List Entry) (v : Shown) → ClockStands g h v → Legal g after
    → (state g after).clock ≡ (state g h).clock → ClockStands g after v
stands_kept g h after v st legal same = record {
  legal = legal;
  settings = st.settings;
  face = st.face ∙ ap (face g) (sym same);
  quiet = ap (λ (c : Clock). c.due) same ∙ st.quiet;
}

-- so do entries without the actor Keeper
pub stands_on : (g : Settings) (h m : List Entry) (v : Shown) → ClockStands g h v → Legal g (h ++ m)
    → IsFree m Keeper → ClockStands g (h ++ m) v
stands_on g h m v st legal free =
    stands_kept g h (h ++ m) v st legal
    (ap (λ (s : State). s.clock) (state-append g h m) ∙ clock_stays g (state g h) m free)

-- a tick of a clock that showed what this clock shows
pub record TickOf (g : Settings) (c : Clock) (r : Reading) (act : Act) (m : Moved) (new : Shown) : Type 0 where
  pub valid : IsValid r
  pub told : m.now ≡ time_after g (face g c) r
  pub in_range : IsInRange (due_after g (face g c) r act m.now)
  pub shift : m.shift ≡ offset_of (due_after g (face g c) r act m.now)
  pub settings : new.settings ≡ g
  pub shows : new.face ≡ shifted (ticked g (face g c) r act m.now) (due_after g (face g c) r act m.now)

-- it is one by what it gives
pub tick_of : (g : Settings) (h : List Entry) (v : Shown) (r : Reading) (act : Act) (m : Moved) (new : Shown)
    → ClockStands g h v → Gives v r act (Ok m) new → TickOf g (state g h).clock r act m new
tick_of g h v r act m new st gives =
    let c : Clock = (state g h).clock in
    let f : Face = face g c in
    let at : IsDone (shown_at g c) r act m new =
    subst (λ (v : Shown). IsDone v r act m new) (shown_is g h v st) gives in
    let told : time_after g f r ≡ m.now = sym at.told in
    record {
      valid = at.valid;
      told = at.told;
      in_range = subst (λ (t : ℤ). IsInRange (due_after g f r act t)) told at.in_range;
      shift = at.shift ∙ ap (λ (t : ℤ). offset_of (due_after g f r act t)) told;
      settings = ap (λ (v : Shown). v.settings) at.shows;
      shows = ap (λ (v : Shown). v.face) at.shows
          ∙ ap (λ (t : ℤ). shifted (ticked g f r act t) (due_after g f r act t)) told;
    }

-- the state to which a shift that is due sets the offset is that of the act
abbrev pub IsStateBy : Act → Option Due → Type 0
IsStateBy act None = Unit {0}
IsStateBy act (Some d) = d.1 ≡ state_by act

state_by_far : (act : Act) (far : Bool) (x : ℤ) → state_by act ≡ Volatile
    → IsStateBy act (cond far (Some (x, Volatile)) None)
state_by_far act true x is = sym is
state_by_far act false x is = tt

state_by_check : (act : Act) (s : OffsetState) (check : Bool) (x offset : ℤ) → state_by act ≡ Volatile
    → IsStateBy act (shift_of s check x offset)
state_by_check act Volatile true x offset is = state_by_far act (nat_lt 1000000 (unsigned_abs (x -ℤ offset))) x is
state_by_check act Volatile false x offset is = tt
state_by_check act Preliminary check x offset is = tt
state_by_check act Final check x offset is = tt

state_by_act : (act : Act) (due : Bool) (s : OffsetState) (x offset : ℤ)
    → IsStateBy act (due_from act due s x offset)
state_by_act Finalize due s x offset = refl
state_by_act Plain due s x offset = state_by_check Plain s due x offset refl
state_by_act Force due s x offset = state_by_check Force s true x offset refl

-- a shift that is due, by the offset that was told of it
due_some : (act : Act) (due : Option Due) (offset : ℤ) → IsStateBy act due → Some offset ≡ offset_of due
    → due ≡ Some (offset, state_by act)
due_some act None offset is e = cc
due_some act (Some d) offset is e =
    let same : offset ≡ d.0 = cc in
    ap (λ (x : OffsetState). Some (d.0, x)) is ∙ ap (λ (x : ℤ). Some (x, state_by act)) (sym same)

-- and none, where none was told
due_none : (due : Option Due) → None ≡ offset_of due → due ≡ None
due_none None e = refl
due_none (Some d) e = cc

-- the shift that was told of a tick is due after it
due_told : (g : Settings) (c : Clock) (r : Reading) (act : Act) (m : Moved) (new : Shown) (offset : ℤ)
    → TickOf g c r act m new → m.shift ≡ Some offset
    → due_after g (face g c) r act m.now ≡ Some (offset, state_by act)
due_told g c r act m new offset t some =
    let f : Face = face g c in
    let is = state_by_act act (due_at g f r) f.state (r.sys -ℤ m.now) f.offset in
    due_some act (due_after g f r act m.now) offset is (sym some ∙ t.shift)

-- the maker of the tick's entry knows what it must, after a history that the clock stood for
pub may_tick : (g : Settings) (h : List Entry) (v : Shown) (r : Reading) (act : Act) (m : Moved) (new : Shown)
    (by : Actor) (with : Option Actor) → ClockStands g h v → MayAct act v.face.state → Gives v r act (Ok m) new
    → Known g (state g h) by with (Tick r act m.now)
may_tick g h v r act m new by with st may gives =
    let t : TickOf g (state g h).clock r act m new = tick_of g h v r act m new st gives in
    let may_now = subst (λ (f : Face). MayAct act f.state) st.face may in
    (st.quiet, record { valid = t.valid; may = may_now; told = t.told; in_range = t.in_range })

-- where a shift was told, the maker of its entry knows what it must, in each state whose clock has done the
-- tick and no more
pub owed : (g : Settings) (h : List Entry) (v : Shown) (r : Reading) (act : Act) (m : Moved) (new : Shown)
    (offset : ℤ) (s : State) (by : Actor) (with : Option Actor) → ClockStands g h v → Gives v r act (Ok m) new
    → m.shift ≡ Some offset → s.clock ≡ clock_after g (state g h).clock (Tick r act m.now)
    → Known g s by with (Shift offset (state_by act))
owed g h v r act m new offset s by with st gives some is =
    ap (λ (c : Clock). c.due) is
    ∙ due_told g (state g h).clock r act m new offset (tick_of g h v r act m new st gives) some

-- where no shift was told, the clock stands for each legal history whose clock has done the tick and no more
pub stands_none : (g : Settings) (h after : List Entry) (v : Shown) (r : Reading) (act : Act) (m : Moved)
    (new : Shown) → ClockStands g h v → Gives v r act (Ok m) new → m.shift ≡ None → Legal g after
    → (state g after).clock ≡ clock_after g (state g h).clock (Tick r act m.now) → ClockStands g after new
stands_none g h after v r act m new st gives none legal is =
    let f : Face = face g (state g h).clock in
    let t : TickOf g (state g h).clock r act m new = tick_of g h v r act m new st gives in
    let due = due_none (due_after g f r act m.now) (sym none ∙ t.shift) in
    record {
      legal = legal;
      settings = t.settings;
      face = t.shows ∙ ap (shifted (ticked g f r act m.now)) due ∙ ap (face g) (sym is);
      quiet = ap (λ (c : Clock). c.due) is ∙ due;
    }

-- where a shift was told, it stands for each legal history whose clock has done the tick and the shift and
-- no more
pub stands_some : (g : Settings) (h after : List Entry) (v : Shown) (r : Reading) (act : Act) (m : Moved)
    (new : Shown) (offset : ℤ) → ClockStands g h v → Gives v r act (Ok m) new → m.shift ≡ Some offset → Legal g after
    → (state g after).clock
    ≡ clock_after g (clock_after g (state g h).clock (Tick r act m.now)) (Shift offset (state_by act))
    → ClockStands g after new
stands_some g h after v r act m new offset st gives some legal is =
    let f : Face = face g (state g h).clock in
    let t : TickOf g (state g h).clock r act m new = tick_of g h v r act m new st gives in
    let due = due_told g (state g h).clock r act m new offset t some in
    record {
      legal = legal;
      settings = t.settings;
      face = t.shows ∙ ap (shifted (ticked g f r act m.now)) due ∙ ap (face g) (sym is);
      quiet = ap (λ (c : Clock). c.due) is;
    }

-- the clock stands for the history with the entries of the tick last
ticks_with : (g : Settings) (h : List Entry) (n : ℕ) (v : Shown) (r : Reading) (act : Act) (m : Moved)
    (new : Shown) (shift : Option ℤ) → n < g.callers → ClockStands g h v → MayAct act v.face.state
    → Gives v r act (Ok m) new → m.shift ≡ shift → ClockStands g (h ++ tick_entries n r act m.now shift) new
ticks_with g h n v r act m new None below st may gives none =
    let e : Entry = tick_entry n r act m.now in
    let known = may_tick g h v r act m new Keeper (Some (Caller n)) st may gives in
    let can : Can g (state g h) e = record { keeps = (refl, below); known = known; found = tt } in
    stands_none g h (h ++ e ∷ []) v r act m new st gives none (legal_more g h e st.legal can)
    (ap (λ (s : State). s.clock) (state-append g h (e ∷ [])))
ticks_with g h n v r act m new (Some offset) below st may gives some =
    let s : State = state g h in
    let e : Entry = tick_entry n r act m.now in
    let d : Entry = keeper_entry n (Shift offset (state_by act)) in
    let known = may_tick g h v r act m new Keeper (Some (Caller n)) st may gives in
    let can : Can g s e = record { keeps = (refl, below); known = known; found = tt } in
    let due = owed g h v r act m new offset (next g s e) Keeper (Some (Caller n)) st gives some refl in
    let can_then : Can g (next g s e) d = record { keeps = (refl, below); known = due; found = tt } in
    stands_some g h (h ++ e ∷ d ∷ []) v r act m new offset st gives some
    (legal-append g (opening g) h (e ∷ d ∷ []) st.legal (can, (can_then, tt)))
    (ap (λ (s : State). s.clock) (state-append g h (e ∷ d ∷ [])))

-- what a tick gives, it gives for each history that the clock stood for
pub ticks_by : (v : Shown) (r : Reading) (act : Act) (result : Result Moved ClockErr) (new : Shown)
    → MayAct act v.face.state → Gives v r act result new → ClockTicks v r act result new
ticks_by v r act (Ok m) new may gives = λ g h n below st.
    ticks_with g h n v r act m new m.shift below st may gives refl
ticks_by v r act (Err BadReading) new may gives = λ g h n below st. subst (ClockStands g h) (sym gives.unchanged) st
ticks_by v r act (Err (OffsetWide value)) new may gives = λ g h n below st. subst (ClockStands g h) (sym gives.unchanged) st

-- a tick may be made in each state of the offset
pub may_act : (force : Bool) (s : OffsetState) → MayAct (act_of force) s
may_act true s = tt
may_act false s = tt

-- a finalization from preliminary has the entries of a tick
pub final_from : (v : Shown) (r : Reading) (s : OffsetState) (m : Moved) (new : Shown) → s ≡ v.face.state
    → s ≡ Preliminary → Gives v r Finalize (Ok m) new → ClockFinalizes v r (Ok (s, m)) new
final_from v r s m new is from gives = λ g h n below st.
    subst (λ (s : OffsetState). ClockStands g (h ++ final_entries s n r m) new) (sym from)
    (ticks_with g h n v r Finalize m new m.shift below st (sym is ∙ from) gives refl)
