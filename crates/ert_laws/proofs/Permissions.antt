-- Each legal history is permitted: how time moves at a tick, and which shifts are made in each mode.

use Rattle.std.proofs.Common.{◌≡◌, ◌⊎◌, inl, inr, ℕ, ◌+◌, ◌≤◌, refl, sym, le_trans, arith, cond, Bool, true, false, ◌||◌, Option, subst, List, [], ◌∷◌}
use Rattle.std.proofs.lemmas.Int.{ints}
use Rattle.std.specs.Prelude.{ℤ, ◌-ℤ◌, int_lt}
use Rattle.ert_defs.specs.{Actors.{same_actor, is_with, has_actor}, ClockMoves.{ShiftIs, OfLastTick}, Clocks.{Clock, Ticked, face, clock_after}, Legal.{Keeps, Known, LegalFrom, Legal}, Lines.first_state, Settings.IsChecked, Sound.Sound}
use Rattle.ert_defs.specs.{Sound.Reaches, States.{State, opening, next, state}, declared.entry.Act.Act, declared.entry.Actor.Actor, declared.entry.Actor.TheVariants.Keeper, declared.entry.Entry.Entry, declared.entry.Event.Event}
use Rattle.ert_defs.specs.{declared.entry.Event.TheVariants.{Tick, Shift}, declared.settings.Mode.Mode, declared.settings.Mode.TheVariants.{No, Single, Multi}, declared.settings.OffsetState.OffsetState}
use Rattle.ert_defs.specs.{declared.settings.OffsetState.TheVariants.{Preliminary, Final, Volatile}, declared.settings.Reading.Reading, declared.settings.Settings.Settings}
use Rattle.ert_defs.proofs.{Bounds.{time_with, line_moves, no_fall}, Modes.{KeepsMode, MayFollow, mode_opening, mode_when}, Times.{KeepsBounds, kept_opening, kept_next}}
use Rattle.ert_laws.specs.Permitted.{TimeMoves, Moves, PermittedFrom, Permitted, shift_count, shifts}

-- a choice is one of two
pub one_of : (b : Bool) (x y : ℤ) → (cond b x y ≡ x) ⊎ (cond b x y ≡ y)
one_of true x y = inl refl
one_of false x y = inr refl

-- a tick moves the time as it may
pub time_moves : (c : Bool) (g : Settings) (a : Clock) (reading : Reading) (act : Act) (now : ℤ)
    → Sound g (face g a) → Reaches c g (face g a) → now ≡ time_with c (face g a) reading
    → TimeMoves c g a (clock_after g a (Tick reading act now)) reading
time_moves true g a reading act now s on told =
    let moves = line_moves g (face g a) reading s on in
    record { least = rw told moves.least; most = rw told moves.most }
time_moves false g a reading act now s off told =
    rw told (one_of (int_lt (reading.sys -ℤ a.offset) a.now) a.now (reading.sys -ℤ a.offset))

-- an event that leaves the clock as it is moves nothing
pub stays : (b : Bool) (a : Clock)
    → ((cond b a a).now ≡ a.now) × ((cond b a a).offset ≡ a.offset) × ((cond b a a).state ≡ a.state)
stays true a = (refl, refl, refl)
stays false a = (refl, refl, refl)

-- an event of this maker moves the clock as it may
abbrev pub MovesBy : Settings → Clock → Option Actor → Event → Actor → Type 0
MovesBy g a with event by = Moves g a (cond (same_actor by Keeper || is_with with Keeper) (clock_after g a event) a) event

-- each event moves the clock as it may
pub moves_event : (g : Settings) (s : State) (by : Actor) (with : Option Actor) (event : Event)
    → KeepsBounds g s.clock → KeepsMode g s.clock → Keeps g by with event → Known g s by with event
    → MovesBy g s.clock with event by
moves_event g s by with (Tick reading act now) k m keeps known =
    let up = no_fall g (face g s.clock) reading k.sound in
    let told = known.1.told in
    let moves = time_moves g.correction g s.clock reading act now k.sound k.sound.reach told in
    subst (MovesBy g s.clock with (Tick reading act now)) (sym keeps.0)
    ((omega (arith, ints, up, told)), moves, refl, refl)
moves_event g s by with (Shift offset state) k m keeps known =
    subst (MovesBy g s.clock with (Shift offset state)) (sym keeps.0)
    (refl, subst (MayFollow g s.clock) known m.due)
moves_event g s by with _ k m keeps known = stays (same_actor by Keeper || is_with with Keeper) s.clock

-- legal entries move the clock as they may
pub moves_run : (g : Settings) (s : State) (h : List Entry) → KeepsBounds g s.clock → KeepsMode g s.clock
    → LegalFrom g s h → PermittedFrom g s h
moves_run g s [] k m legal = tt
moves_run g s (e ∷ h) k m legal =
    let bounds = kept_next g s e k legal.0 in
    let mode = mode_when (has_actor e Keeper) g s e m legal.0 in
    let moves = moves_event g s e.by e.with e.event k m legal.0.keeps legal.0.known in
    (moves, moves_run g (next g s e) h bounds mode legal.1)

-- in single time warp mode a shift is left only while the offset is preliminary
abbrev pub left_in : OffsetState → ℕ
left_in Preliminary = 1
left_in Final = 0
left_in Volatile = 0

-- that is one shift at most
pub left_most : (state : OffsetState) → left_in state ≤ 1
left_most Preliminary = omega arith
left_most Final = omega arith
left_most Volatile = omega arith

-- each shift uses one up
pub left_at_shift : (m : Mode) (g : Settings) (from to : ℤ) (old new : OffsetState) (ticks : List Ticked)
    → m ≡ Single → OfLastTick (ShiftIs m g from old to new) ticks → 1 + left_in new ≤ left_in old
left_at_shift No g from to old new ticks single is = absurd (cc)
left_at_shift Multi g from to old new ticks single is = absurd (cc)
left_at_shift Single g from to old new [] single is = absurd is
left_at_shift Single g from to old new (t ∷ ts) single is = rw (is.0, is.1) (omega arith)

-- and no other event does
pub left_after : (g : Settings) (a b : Clock) (event : Event) → g.mode ≡ Single → Moves g a b event
    → shift_count event + left_in b.state ≤ left_in a.state
left_after g a b (Tick reading act now) single moves = rw moves.3 (omega arith)
left_after g a b (Shift offset state) single moves =
    left_at_shift g.mode g a.offset b.offset a.state b.state a.ticks single moves.1
left_after g a b _ single moves = rw moves.2 (omega arith)

-- so no more shifts follow than are left
pub left_run : (g : Settings) (s : State) (h : List Entry) → g.mode ≡ Single → PermittedFrom g s h
    → shifts h ≤ left_in s.clock.state
left_run g s [] single moves = omega arith
left_run g s (e ∷ h) single moves =
    let one = left_after g s.clock (next g s e).clock e.event single moves.0 in
    let more = left_run g (next g s e) h single moves.1 in
    omega (arith, one, more)

-- each legal history is permitted
pub permitted : (g : Settings) (h : List Entry) → IsChecked g → Legal g h → Permitted g h
permitted g h checked legal =
    let moves = moves_run g (opening g) h (kept_opening g checked) (mode_opening g) legal in
    record {
      moves = moves;
      once = λ single. le_trans (left_run g (opening g) h single moves) (left_most (first_state g.mode));
    }
