use Rattle.ert_world.proofs.DueTurns.{due_handings, due_turns}
use Rattle.ert_world.proofs.laws.turns_put_due_messages.Goals as goal

pub returns : goal.returns
returns c = record { handings = due_handings; turns = due_turns }
