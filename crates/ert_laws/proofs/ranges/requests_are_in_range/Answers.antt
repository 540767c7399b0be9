use Rattle.ert_laws.proofs.Requests.{waiting_have_askers, held_have_askers}
use Rattle.ert_laws.proofs.ranges.requests_are_in_range.Goals as goal

pub returns-clause-inboxes : goal.returns-clause-inboxes
returns-clause-inboxes c = waiting_have_askers

pub returns-clause-hands : goal.returns-clause-hands
returns-clause-hands c = held_have_askers
