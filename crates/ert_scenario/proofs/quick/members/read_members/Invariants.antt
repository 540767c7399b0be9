use Rattle.std.proofs.Common.{length}
use Rattle.ert_scenario.proofs.QuickMembers.{MembersSoFar}
use Rattle.ert_scenario.proofs.quick.members.read_members.Given as goal

abbrev pub invariant-members : goal.invariant-members
invariant-members l = MembersSoFar l.initial.reader l.reader l.seen

abbrev pub decreases-members : goal.decreases-members
decreases-members l = length l.reader
