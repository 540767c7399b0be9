-- What is found of a timer: its row, what is left of it, and that it is the first that expired.

use Rattle.std.proofs.Common.{arith, ◌≡◌, ℤ, sym, ap, ◌∙◌, List, Option, Some, None}
use Rattle.std.specs.Prelude.{◌≢◌, option_map}
use Rattle.ert_defs.specs.{Legal.left_by, Milliseconds.left, Timers.{Row, row_of}, declared.settings.Settings.Settings, declared.timer.Status.Status, declared.timer.Status.TheVariants.Armed, declared.timer.TimerRef.TimerRef}
use Rattle.ert_judge.specs.{Wheels.{timer_in, rows_of, status_among}, declared.state.wheels.Timer.Timer}
use Rattle.ert_judge.proofs.WheelLaws.{row_of_rows}

-- what is left of a timer, by what is found of it
pub left_found : (g : Settings) (look : ℤ) (ts : List Timer) (r : TimerRef) (t : Option Timer) → t ≡ timer_in ts r
    → left_by g look (option_map (λ (u : Timer). u.status) t) (option_map (λ (u : Timer). u.row) t)
    ≡ left_by g look (status_among ts r) (row_of (rows_of ts) r)
left_found g look ts r t e =
    ap (λ (u : Option Timer). left_by g look (option_map (λ (v : Timer). v.status) u) (option_map (λ (v : Timer). v.row) u)) e
    ∙ ap (left_by g look (status_among ts r)) (sym (row_of_rows ts r))

-- of an armed one
pub left_armed : (g : Settings) (look : ℤ) (ts : List Timer) (r : TimerRef) (t : Timer) → Some t ≡ timer_in ts r
    → t.status ≡ Armed → Some (left g t.row.deadline look) ≡ left_by g look (status_among ts r) (row_of (rows_of ts) r)
left_armed g look ts r t e armed =
    ap (λ (s : Status). left_by g look (Some s) (Some t.row)) (sym armed) ∙ left_found g look ts r (Some t) e

not_left : (g : Settings) (look : ℤ) (s : Status) (row : Row) → s ≢ Armed → None ≡ left_by g look (Some s) (Some row)
not_left g look s row other = grind arith

-- of one that isn't armed
pub left_other : (g : Settings) (look : ℤ) (ts : List Timer) (r : TimerRef) (t : Timer) → Some t ≡ timer_in ts r
    → t.status ≢ Armed → None ≡ left_by g look (status_among ts r) (row_of (rows_of ts) r)
left_other g look ts r t e other = not_left g look t.status t.row other ∙ left_found g look ts r (Some t) e

-- of none
pub left_none : (g : Settings) (look : ℤ) (ts : List Timer) (r : TimerRef) → None ≡ timer_in ts r
    → None ≡ left_by g look (status_among ts r) (row_of (rows_of ts) r)
left_none g look ts r e = left_found g look ts r None e
