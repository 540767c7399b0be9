use Rattle.std.proofs.Common.{refl}
use Rattle.ert_program.proofs.InMemory.{ends_in_memory, never_rose}
use Rattle.ert_program.proofs.in_memory.run_in_memory.Goals as goal

pub returns : goal.returns
returns c = λ plan short is.
    ends_in_memory _ _ _ _ _ c.run.result plan c.one_verdict.ensures.one_scenario c.scenarios_are_accepted.ensures.accepted c.run.ensures.ends c.run.ensures.desk
    refl never_rose never_rose short is
