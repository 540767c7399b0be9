use Rattle.std.proofs.Common.{◌∙◌, refl, arith}
use Rattle.ert_timers.proofs.{Joined.none_joined, AllSlots.all_unused, Openings.{fit_open, stands_open}}
use Rattle.ert_timers.specs.{Parts.all_slots, Free.free_set}
use Rattle.ert_timers.proofs.part.WheelPart.open.Goals as goal

pub invariant_of-result : goal.invariant_of-result
invariant_of-result c =
    let g = c.args.settings.now in
    let counts = c.requires.checked.counts in
    let timers = c.in_ok-timers in
    let none = (λ i. all_slots (timers.ensures.values i) (timers.ensures.slots i)) ∙ all_unused g.slots in
    record {
      fit =
          fit_open g.slots (all_slots timers.timers.values timers.timers.owners.slots) timers.timers.keys (free_set c.in_ok-free.free) timers.timers.owners counts.slots_high
          (omega (arith, counts.processes_high, timers.ensures.homes)) none timers.ensures.keys c.in_ok-free.ensures.slots c.in_ok-free.ensures.every
          timers.ensures.slots timers.ensures.unowned;
      joined = none_joined timers.timers.values timers.timers.owners timers.ensures.values;
    }

pub returns-clause-stands : goal.returns-clause-stands
returns-clause-stands c =
    let g = c.args.settings.now in
    let timers = c.in_ok-timers in
    let none = (λ i. all_slots (timers.ensures.values i) (timers.ensures.slots i)) ∙ all_unused g.slots in
    stands_open g c.args.wheel g.slots _ c.requires.checked c.requires.in_range refl refl timers.ensures.homes none timers.ensures.keys refl refl refl
