use Rattle.std.proofs.Common.{rules}
use Rattle.std.proofs.lemmas.Fn.{filter_same}
use Rattle.ert_defs.proofs.monitors.remove_monitor.Goals as goal

pub returns-clause-monitors : goal.returns-clause-monitors
returns-clause-monitors c = filter_same _ _ _ (λ x b f' k. search rules) _ _ c.retain.ensures.filtered
