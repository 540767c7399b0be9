-- A row that stands in a wheel is the one of its timer.

use Rattle.std.proofs.Common.{◌≡◌, ◌≢◌, Bool, cond, List, [], ◌∷◌, ◌++◌, All, AllPairs, Some, ap, ◌∙◌}
use Rattle.std.proofs.lemmas.List.Elements.{All-head, All-tail}
use Rattle.ert_defs.proofs.{ExpiredTimers.{same_timer_self, same_timer-false}, Lists.{pairs_head, pairs_tail}, Rows.Differ}
use Rattle.ert_defs.specs.Timers.{Row, row_of}

pub differs_from : (x : Row) (before : List Row) (row : Row) (behind : List Row) → All (Differ x) (before ++ (row ∷ behind)) → x.timer ≢ row.timer
differs_from x [] row behind all = All-head (Differ x) row behind all
differs_from x (y ∷ before) row behind all = differs_from x before row behind (All-tail (Differ x) y (before ++ (row ∷ behind)) all)

pub row_stands : (before : List Row) (row : Row) (behind : List Row) → AllPairs Differ (before ++ (row ∷ behind))
    → row_of (before ++ (row ∷ behind)) row.timer ≡ Some row
row_stands [] row behind apart = ap (λ (b : Bool). cond b (Some row) (row_of behind row.timer)) (same_timer_self row.timer)
row_stands (x ∷ before) row behind apart =
    ap (λ (b : Bool). cond b (Some x) (row_of (before ++ (row ∷ behind)) row.timer))
    (same_timer-false x.timer row.timer (differs_from x before row behind (pairs_head Differ x (before ++ (row ∷ behind)) apart)))
    ∙ row_stands before row behind (pairs_tail Differ x (before ++ (row ∷ behind)) apart)
