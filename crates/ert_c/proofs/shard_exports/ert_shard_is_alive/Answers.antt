use Rattle.std.proofs.Common.{refl, ◌∙◌, arith, rules}
use Rattle.ert_c.proofs.Sharing.{made_through}
use Rattle.ert_c.proofs.shard_exports.ert_shard_is_alive.Goals as goal

pub returns-then-process-processes : goal.returns-then-process-processes
returns-then-process-processes c = made_through _ _ _ _ _ c.lend-own.result.now c.lend-own.result.now (c.as_place.ensures.value ∙ c.lend-own.ensures.value) refl (record {
  below = λ h. absurd (omega (arith, c.if-process-processes.true, c.processes.ensures, h));
  above = λ _. record { told = refl; unchanged = refl; same = refl };
})

pub returns : goal.returns
returns c = made_through _ _ _ _ _ c.lend-own.result.now c.is_alive-answer.new.self (c.as_place.ensures.value ∙ c.lend-own.ensures.value) refl (record {
  below = λ _. record { answer = c.is_alive-answer.result; made = c.is_alive-answer.ensures; told = search rules };
  above = λ h. absurd (omega (arith, c.if-process-processes.false, c.processes.ensures, h));
})
