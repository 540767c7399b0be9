use Rattle.ert_names.specs.Calls.{ArePast}
use Rattle.ert_names.proofs.world.NameWorld.first_place.Given as goal

abbrev pub invariant-loop-place : goal.invariant-loop-place
invariant-loop-place l = ArePast l.fn.process l.place l.fn.self.mail
