use Rattle.std.proofs.Common.{[], slice_index_or}
use Rattle.std.specs.FinSet as set
use Rattle.ert_timers.specs.Parts.{Part}
use Rattle.ert_wheel.proofs.Closer.{later_answers}
use Rattle.ert_world.proofs.laws.next_due_goes_on.Goals as goal

-- what stands for a part that isn't there
nothing : Part
nothing = record {
  number = 0;
  processes = 0;
  slots = [];
  keys = [];
  free = set.empty;
  arms = 0;
  expires = 0;
  orphans = 0;
  passed = 0;
  next_look = 0;
  stands = [];
}

pub returns : goal.returns
returns c = λ w i to time passed told.
    let p : Part = slice_index_or w.wheels i nothing in
    later_answers p.keys p.stands p.passed time to (told nothing) (passed nothing).left (passed nothing).on
