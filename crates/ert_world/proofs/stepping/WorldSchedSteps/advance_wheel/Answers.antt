use Rattle.ert_world.proofs.stepping.WorldSchedSteps.advance_wheel.Goals as goal

pub returns-clause-call : goal.returns-clause-call
returns-clause-call c = c.advance.ensures.call.grows

pub returns-clause-stays : goal.returns-clause-stays
returns-clause-stays c = c.advance.ensures.stays
