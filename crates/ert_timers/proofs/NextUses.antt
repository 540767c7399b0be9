-- The next use of a slot tells the deadline of its timer, and no timer before had its reference.

use Rattle.std.proofs.Common.{◌≡◌, ◌≢◌, ℕ, ◌<◌, List, length, Some, option_map, refl, sym, ap, subst, ◌∙◌, get_or-set_same}
use Rattle.std.proofs.lemmas.{List.Elements.All-get_or, Option.{get_or_from_slice_get, slice_get_within}}
use Rattle.std.specs.List.{slice_get}
use Rattle.ert_defs.specs.{Legal.Legal, Milliseconds.{natural, down, deadline_of}, States.{State, uses_at, state}, Timers.{Row, deadline_told, timer_at}, declared.entry.Actor.TheVariants.Caller, declared.entry.Entry.Entry}
use Rattle.ert_defs.specs.{declared.settings.Settings.Settings, declared.timer.Start.Start, declared.timer.TimerRef.TimerRef}
use Rattle.ert_defs.proofs.{Rows.{IsRow, rows_hold}, Slots.ordered, Uses.{IsBefore, Use as UseOf, CanUse, fresh, told_is}}
use Rattle.ert_table.proofs.ArmActs.{in_range_at}
use Rattle.ert_timers.specs.{Changes.{kept, slot_for}, Parts.{Part, slot_at, last_timer, unused}, Starting.IsUseFor, Slots.Slot, declared.part.Use.Use}
use Rattle.ert_table.specs.Ranges.{IsTimer}

-- what the model takes of the next use of a slot
abbrev pub use_of : (g : Settings) (s : State) (by w k : ℕ) (start : Start) (coming : Use) → IsUseFor g s by w k start coming → UseOf
use_of g s by w k start coming is = record {
  now = natural (down g (s.looked (Caller by)));
  wanted = is.wanted;
  generation = coming.generation;
}

-- the deadline of the timer is told by its generation, and is else the one that is asked for
pub told_of : (g : Settings) (h : List Entry) (by w k : ℕ) (start : Start) (coming : Use) (timer : TimerRef) → Legal g h
    → (is : IsUseFor g (state g h) by w k start coming) → timer.generation ≡ coming.generation → deadline_told timer.generation is.wanted ≡ coming.deadline
told_of g h by w k start coming timer legal is generation =
    ap (λ n. deadline_told n is.wanted) generation
    ∙ (told_is (uses_at (state g h) w k) (use_of g (state g h) by w k start coming is) (ordered g h legal w k).sound is.can ∙ sym is.deadline)

pub told_deadline : (g : Settings) (h : List Entry) (by w k : ℕ) (start : Start) (coming : Use) (timer : TimerRef) → Legal g h
    → (is : IsUseFor g (state g h) by w k start coming) → timer.generation ≡ coming.generation
    → option_map (deadline_told timer.generation) (deadline_of g start ((state g h).looked (Caller by))) ≡ Some coming.deadline
told_deadline g h by w k start coming timer legal is generation =
    ap (option_map (deadline_told timer.generation)) is.due ∙ ap (λ d. Some d) (told_of g h by w k start coming timer legal is generation)

-- it has a word
pub has_word : (g : Settings) (h : List Entry) (by w k : ℕ) (start : Start) (coming : Use) → Legal g h
    → IsUseFor g (state g h) by w k start coming → IsTimer coming.deadline coming.generation
has_word g h by w k start coming legal is =
    let timer : TimerRef = timer_at w k coming.generation in
    in_range_at g (state g h) ((state g h).looked (Caller by)) timer _ is.wanted coming.deadline (ordered g h legal) is.due is.can
    (told_deadline g h by w k start coming timer legal is refl)

-- the generation of the new timer
pub new_generation : (p q : Part) (k : ℕ) (start : Start) (coming : Use) (timer : TimerRef) → k < length p.slots → q ≡ kept p k start coming q.stands
    → timer ≡ last_timer q.number q.slots k → timer.generation ≡ coming.generation
new_generation p q k start coming timer low part timer_is =
    let slot : Slot = slot_for coming (slot_at p.slots k).above start in
    ap (λ (t : TimerRef). t.generation) (timer_is ∙ ap (λ (x : Part). last_timer x.number x.slots k) part)
    ∙ ap (λ (x : Slot). x.generation) (get_or-set_same p.slots k slot unused low)

pub deadline_is : (g : Settings) (h : List Entry) (by : ℕ) (p q : Part) (k : ℕ) (coming : Use) (start : Start) (timer : TimerRef) → Legal g h
    → k < length p.slots → IsUseFor g (state g h) by p.number k start coming → q ≡ kept p k start coming q.stands → timer ≡ last_timer q.number q.slots k
    → option_map (deadline_told timer.generation) (deadline_of g start ((state g h).looked (Caller by))) ≡ Some coming.deadline
deadline_is g h by p q k coming start timer legal low is part timer_is =
    told_deadline g h by p.number k start coming timer legal is (new_generation p q k start coming timer low part timer_is)

-- each old timer has another reference
pub old_apart : (g : Settings) (h : List Entry) (w k : ℕ) (t : UseOf) (timer : TimerRef) → Legal g h → CanUse (uses_at (state g h) w k) t
    → timer.slot ≡ k → timer.generation ≡ t.generation → (n : ℕ) (row : Row) → slice_get ((state g h).rows w) n ≡ Some row → row.timer ≢ timer
old_apart g h w k t timer legal can slot generation n row at same =
    let rows : List Row = (state g h).rows w in
    let is : IsRow w (uses_at (state g h) w) row =
    subst (IsRow w (uses_at (state g h) w)) (get_or_from_slice_get rows n row row at)
    (All-get_or (IsRow w (uses_at (state g h) w)) rows n row (slice_get_within rows n row at) (rows_hold g h w legal).each) in
    let before : IsBefore (uses_at (state g h) w timer.slot) timer.generation =
    subst (λ (r : TimerRef). IsBefore (uses_at (state g h) w r.slot) r.generation) same is.used in
    fresh (uses_at (state g h) w k) t timer.generation (ordered g h legal w k).sound can
    (subst (λ j. IsBefore (uses_at (state g h) w j) timer.generation) slot before) generation
