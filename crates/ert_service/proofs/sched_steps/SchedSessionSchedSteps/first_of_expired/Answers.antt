use Rattle.std.proofs.Common.{ℕ, ◌≤◌, length, subst}
use Rattle.std.specs.Arc.{arc_value}
use Rattle.ert_defs.specs.{States.state, declared.settings.TheConstants.MOST_SLOTS}
use Rattle.ert_service.proofs.Chained.{rows_few}
use Rattle.ert_table.specs.Desks.{front_of}
use Rattle.ert_service.proofs.sched_steps.SchedSessionSchedSteps.first_of_expired.Goals as goal

pub returns-clause-few : goal.returns-clause-few
returns-clause-few g c =
    let s = g.L.DeskName.settings in
    let service = c.args.self.now.service.now in
    let seat = c.args.self.now.seat in
    let high = subst (λ t. t.slots ≤ MOST_SLOTS) service.named.settings_is (arc_value service.desk).checked.counts.slots_high in
    let few = rows_few s seat.pass seat.part high seat.fits.sits.named seat.fits.stands in
    subst (λ (n : ℕ). length ((state s (front_of seat.pass)).scheds n).expired ≤ MOST_SLOTS) c.requires (subst (λ l. length l ≤ MOST_SLOTS) seat.fits.stands.expired few)
