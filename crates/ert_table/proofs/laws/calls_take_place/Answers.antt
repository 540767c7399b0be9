use Rattle.ert_table.proofs.Calls.{step_takes_place, takes_place_then, whole_exact}
use Rattle.ert_table.proofs.laws.calls_take_place.Goals as goal

pub returns : goal.returns
returns c = record { steps = step_takes_place; calls = takes_place_then; whole = whole_exact }
