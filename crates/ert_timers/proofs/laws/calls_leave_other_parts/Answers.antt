use Rattle.ert_timers.proofs.LawsHold.{restarts_only, starts_only, advances_only, sweeps_only, rooms_only, probed_only}
use Rattle.ert_timers.proofs.laws.calls_leave_other_parts.Goals as goal

pub returns-clause-starts : goal.returns-clause-starts
returns-clause-starts c = starts_only

pub returns-clause-advances : goal.returns-clause-advances
returns-clause-advances c = advances_only

pub returns-clause-sweeps : goal.returns-clause-sweeps
returns-clause-sweeps c = sweeps_only

pub returns-clause-rooms : goal.returns-clause-rooms
returns-clause-rooms c = rooms_only

pub returns-clause-restarts : goal.returns-clause-restarts
returns-clause-restarts c = restarts_only

pub returns-clause-probes : goal.returns-clause-probes
returns-clause-probes c = probed_only
