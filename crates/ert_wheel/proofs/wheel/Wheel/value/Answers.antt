use Rattle.ert_wheel.proofs.Writes.{low_in}
use Rattle.ert_wheel.proofs.wheel.Wheel.value.Goals as goal

pub value-requires : goal.value-requires
value-requires g c = (low_in c.args.slot c.self.invariant c.self.view_is c.requires).low_record
