use Rattle.std.proofs.Common.{◌≡◌, ◌∙◌, Some, None, inr, sym}
use Rattle.ert_timers.proofs.part.WheelPart.held_for.Goals as goal
use Rattle.ert_wheel.specs.Rows.{key_of, row_told}

pub timer-requires-clause-used : goal.timer-requires-clause-used
timer-requires-clause-used c = inr (λ none. let no : Some (key_of (row_told c.newest_of.new.self.keys c.in_ok-row.row)) ≡ None = sym c.in_ok-row.ensures.row.1 ∙ none in cc)
