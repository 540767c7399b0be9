use Rattle.ert_wheel.proofs.{Tellers.next_by, Writes.sees}
use Rattle.ert_wheel.proofs.wheel.Wheel.kept_due.Goals as goal

pub returns-in-Some-clause-due : goal.returns-in-Some-clause-due
returns-in-Some-clause-due g c =
    next_by c.args.self.now.keys c.args.self.now.stands c.args.self.now.passed c.self.inside.floor c.in-Some.slot
    (sees c.self.invariant.rows c.self.view_is).above c.in-Some.ensures.tells
