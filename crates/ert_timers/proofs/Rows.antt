-- The rows that a part holds, while the state goes on and rows go.

use Rattle.std.proofs.Common.{◌≡◌, ◌≢◌, ℕ, ◌<◌, List, length, Option, Some, None, sym, ap, ◌∙◌, get_or, set, get_or-set_same, get_or-set_other}
use Rattle.std.proofs.lemmas.{List.Elements.All-get_or, Option.{get_or_from_slice_get, slice_get_within}}
use Rattle.std.specs.List.{slice_get}
use Rattle.ert_defs.specs.{Legal.Legal, States.{State, uses_at, state}, Timers.Row, declared.entry.Entry.Entry, declared.settings.Settings.Settings, declared.timer.Status.TheVariants.Armed}
use Rattle.ert_defs.proofs.Rows.{IsRow, rows_hold}
use Rattle.ert_timers.specs.{Parts.{IsLive, HoldsRows, last_timer, held_row}, Slots.Slot}
use Rattle.ert_timers.proofs.Later.{IsLater}
use Rattle.ert_wheel.specs.{Rows.key_in, declared.row.Key.Key}

-- a key that stays when the row of another slot goes
pub key_left : (keys : List (Option Key)) (k j : ℕ) (key : Key) → k < length keys → key_in (set keys k None) j ≡ Some key
    → (j ≢ k) × (key_in keys j ≡ Some key)
key_left keys k j key low is =
    let other : j ≢ k =
    λ same. (let none : key_in (set keys k None) j ≡ None = ap (key_in (set keys k None)) same ∙ get_or-set_same keys k None None low in
    let no : Some key ≡ None = sym is ∙ none in cc) in
    (other, sym (get_or-set_other keys k j None None other) ∙ is)

-- a timer of a wheel has the number of the wheel
pub row_wheel : (g : Settings) (h : List Entry) (w n : ℕ) (row : Row) → Legal g h → slice_get ((state g h).rows w) n ≡ Some row
    → row.timer.wheel ≡ w
row_wheel g h w n row legal at =
    let rows : List Row = (state g h).rows w in
    let is : IsRow w (uses_at (state g h) w) (get_or rows n row) =
    All-get_or (IsRow w (uses_at (state g h) w)) rows n row (slice_get_within rows n row at) (rows_hold g h w legal).each in
    ap (λ (r : Row). r.timer.wheel) (sym (get_or_from_slice_get rows n row row at)) ∙ is.wheel

-- an armed timer is the row that is held of its slot
pub armed_row : (s : State) (w : ℕ) (slots : List Slot) (keys : List (Option Key)) (n : ℕ) (row : Row) → HoldsRows s w slots keys
    → slice_get (s.rows w) n ≡ Some row → s.status row.timer ≡ Some Armed
    → row ≡ held_row w slots row.timer.slot (record { deadline = row.deadline; order = n })
armed_row s w slots keys n row holds at is =
    let key : Key = record { deadline = row.deadline; order = n } in
    let e : Some row ≡ Some (held_row w slots row.timer.slot key) =
    sym at ∙ holds.each row.timer.slot key (holds.armed n row at is) in
    cc

-- the timers that are held are armed or were cancelled
abbrev pub AreLive : State → ℕ → List Slot → List (Option Key) → Type 0
AreLive s w slots keys = (k : ℕ) (key : Key) → key_in keys k ≡ Some key → IsLive (s.status (last_timer w slots k))

module _ (g : Settings) (h : List Entry) (w : ℕ) (slots : List Slot) (keys : List (Option Key)) (t : State) (legal : Legal g h)
    (holds : HoldsRows (state g h) w slots keys) (later : IsLater w (state g h) t) where
  at_first : (n : ℕ) (row : Row) → slice_get (t.rows w) n ≡ Some row → slice_get ((state g h).rows w) n ≡ Some row
  at_first n row at = ap (λ rows. slice_get rows n) (sym later.rows) ∙ at

  was_armed : (n : ℕ) (row : Row) → slice_get (t.rows w) n ≡ Some row → t.status row.timer ≡ Some Armed
      → (state g h).status row.timer ≡ Some Armed
  was_armed n row at is = later.armed row.timer (row_wheel g h w n row legal (at_first n row at)) is

  -- the rows that are held go on
  pub rows_later : AreLive t w slots keys → HoldsRows t w slots keys
  rows_later live = record {
    each = λ k key is. ap (λ rows. slice_get rows key.order) later.rows ∙ holds.each k key is;
    live = live;
    armed = λ n row at is. holds.armed n row (at_first n row at) (was_armed n row at is);
  }

  -- and so they do when the row of a slot goes whose timer isn't armed
  pub rows_dropped : (k : ℕ) → k < length keys → t.status (last_timer w slots k) ≢ Some Armed
      → AreLive t w slots (set keys k None) → HoldsRows t w slots (set keys k None)
  rows_dropped k low settled live = record {
    each = λ j key is. ap (λ rows. slice_get rows key.order) later.rows ∙ holds.each j key (key_left keys k j key low is).1;
    live = live;
    armed = λ n row at is.
        let key : Key = record { deadline = row.deadline; order = n } in
        let held : key_in keys row.timer.slot ≡ Some key = holds.armed n row (at_first n row at) (was_armed n row at is) in
        let last : row.timer ≡ last_timer w slots row.timer.slot =
        ap (λ (r : Row). r.timer) (armed_row (state g h) w slots keys n row holds (at_first n row at) (was_armed n row at is)) in
        let other : row.timer.slot ≢ k =
        λ same. settled (ap t.status (sym (last ∙ ap (last_timer w slots) same)) ∙ is) in
        get_or-set_other keys k row.timer.slot None None other ∙ held;
  }
