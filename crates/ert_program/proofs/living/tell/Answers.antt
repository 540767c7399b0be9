use Rattle.std.proofs.Common.{[], ◌∙◌}
use Rattle.ert_program.proofs.living.tell.Goals as goal

pub system_time-time-requires : goal.system_time-time-requires
system_time-time-requires c = (c.monotonic_time-now.ensures.with []).next ∙ c.requires
